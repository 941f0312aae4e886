use Rattle.std.proofs.Common.{rules, ◌≡◌, arith, ap, sym, ◌∙◌}
use Rattle.std.proofs.lemmas.List.{take_all}
use Rattle.std.proofs.lemmas.Slice.{overwrites}
use Rattle.std.specs.Int.{w64, to_le_bytes}
use Rattle.rusty_paseto_primitives.specs.Blake2.Keyed.{hash_bytes}
use Rattle.rusty_paseto_primitives.proofs.Blake2Blocks.{hash_bytes_more}
use Rattle.paseto_argon2.proofs.block.block_bytes.Goals as goal

pub words-init : goal.words-init
unfolding hash_bytes
words-init c = search rules

pub words-preserved : goal.words-preserved
words-preserved c = (
  search (rules, overwrites),
  λ a e.
      hash_bytes_more c.words.bytes a _ c.words.k _ (c.words.invariant.1 a e) (omega arith)
      (c.copy_from_slice.ensures.after ∙ c.to_le_bytes.ensures ∙ ap (to_le_bytes w64) (c.word_of.ensures a e)),
)

pub returns : goal.returns
returns c a e =
    let done : c.words.k ≡ 128 = omega arith in
    sym (take_all 1024 c.words.bytes (omega arith)) ∙ rw done at c.words.invariant.1 a e

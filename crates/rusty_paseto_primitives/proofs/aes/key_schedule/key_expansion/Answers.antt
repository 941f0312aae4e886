use Rattle.std.proofs.Common.{rules, ◌≡◌, ◌+◌, ap, ◌∙◌, sym, arith, length-append}
use Rattle.std.proofs.lemmas.List.{take_all, take_at}
use Rattle.std.proofs.lemmas.Slice.{overwrites}
use Rattle.rusty_paseto_primitives.specs.Aes.KeySchedule.{expanded, key_expansion}
use Rattle.rusty_paseto_primitives.proofs.AesKeySchedule.{expanded_more}
use Rattle.rusty_paseto_primitives.proofs.aes.key_schedule.key_expansion.Goals as goal

pub words-init : goal.words-init
unfolding expanded
words-init c = (
  length-append c.copy_from_slice.new.self _ ∙ ap (λ n. n + 208) c.copy_from_slice.ensures.len,
  take_at c.copy_from_slice.new.self _ 32 c.copy_from_slice.ensures.len ∙ c.copy_from_slice.ensures.after,
)

pub words-preserved : goal.words-preserved
words-preserved c = (
  search (rules, overwrites),
  expanded_more c.words.schedule c.args.key.now _ c.words.i _ c.words.invariant.1 (omega arith) (omega arith)
      (c.copy_from_slice-in-words.ensures.after ∙ c.next_word-word.ensures),
)

pub returns : goal.returns
unfolding key_expansion
returns c =
    let all : c.words.i ≡ 60 = omega arith in
    sym (take_all 240 c.words.schedule (omega arith)) ∙ rw all at c.words.invariant.1

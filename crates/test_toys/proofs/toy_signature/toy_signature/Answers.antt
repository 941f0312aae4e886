use Rattle.std.proofs.Common.{rules, ◌≡◌, arith, sym, ◌∙◌, refl}
use Rattle.std.proofs.lemmas.List.{take_all}
use Rattle.std.proofs.lemmas.Slice.{overwrites}
use Rattle.test_toys.specs.ToySignature.{toy_blocks}
use Rattle.test_toys.proofs.ToyBlocks.{toy_blocks_more}
use Rattle.test_toys.proofs.toy_signature.toy_signature.Goals as goal

pub each-init : goal.each-init
unfolding toy_blocks
each-init g c = (refl, refl)

pub each-preserved : goal.each-preserved
each-preserved g c = (
  search (rules, overwrites),
  rw c.from-at.ensures
      (toy_blocks_more _ c.blake2b_keyed-key.result c.args.message.now _ c.each.i _ c.each.invariant.1 (omega arith)
      (c.copy_from_slice.ensures.after ∙ c.toy_block.ensures)),
)

pub returns : goal.returns
returns g c =
    let done : c.each.i ≡ 4 = omega arith in
    let blocks = sym (take_all 256 c.each.joined (omega arith)) ∙ rw done at c.each.invariant.1 in
    c.copy_from_slice-2.ensures.after ∙ rw (blocks, c.blake2b_keyed-key.ensures) refl

use Rattle.paseto_pem.specs.Text.{IsPassed}
use Rattle.paseto_pem.proofs.BlockLaws.{all-passed, passed-on}
use Rattle.paseto_pem.proofs.text.first_block.Goals as goal

pub each-preserved : goal.each-preserved
each-preserved c =
    let i = c.each.invariant in
    passed-on IsPassed _ i.0 c.each.rest.now _ c.in-len1-up.len_at_least i.1 i.2 (c.is_passed.ensures.0 c.if-not-is_passed.false)

pub returns : goal.returns
returns c =
    let i = c.each.invariant in
    all-passed IsPassed _ i.0 c.each.rest.now c.in_default.len_below i.1 i.2

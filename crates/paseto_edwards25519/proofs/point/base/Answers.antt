use Rattle.paseto_edwards25519.proofs.CurveLaws.{base-gives}
use Rattle.paseto_edwards25519.proofs.point.base.Goals as goal

pub invariant_of-result-clause-on_curve : goal.invariant_of-result-clause-on_curve
invariant_of-result-clause-on_curve c =
    rw (c.base_x.ensures.value, c.base_y.ensures.value, c.one.ensures.value, c.base_t.ensures.value) base-gives.on_curve

pub returns : goal.returns
returns c = rw (c.base_x.ensures.value, c.base_y.ensures.value, c.one.ensures.value, c.base_t.ensures.value) base-gives.is

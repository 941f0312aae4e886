use Rattle.paseto_edwards25519.proofs.CurveLaws.{identity-gives}
use Rattle.paseto_edwards25519.proofs.point.identity.Goals as goal

pub invariant_of-result-clause-on_curve : goal.invariant_of-result-clause-on_curve
invariant_of-result-clause-on_curve c =
    rw (c.zero.ensures.value, c.one.ensures.value, c.one-2.ensures.value, c.zero-2.ensures.value) identity-gives.on_curve

pub returns : goal.returns
returns c =
    rw (c.zero.ensures.value, c.one.ensures.value, c.one-2.ensures.value, c.zero-2.ensures.value) identity-gives.is

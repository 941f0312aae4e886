use Rattle.paseto_edwards25519.specs.Field.{number, times}
use Rattle.paseto_edwards25519.proofs.CurveLaws.{flat-gives}
use Rattle.paseto_edwards25519.proofs.point.to_projective.Goals as goal

pub invariant_of-result-clause-on_curve : goal.invariant_of-result-clause-on_curve
invariant_of-result-clause-on_curve c =
    let k = c.args.c in
    rw (c.mul.ensures.value, c.mul-2.ensures.value, c.mul-3.ensures.value)
    (flat-gives _ _ _ (times (number k.e) (number k.h)) k.on_curve).on_curve

pub returns : goal.returns
returns c =
    let k = c.args.c in
    rw (c.mul.ensures.value, c.mul-2.ensures.value, c.mul-3.ensures.value)
    (flat-gives _ _ _ (times (number k.e) (number k.h)) k.on_curve).is

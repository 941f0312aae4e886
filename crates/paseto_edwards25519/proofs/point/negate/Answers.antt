use Rattle.paseto_edwards25519.specs.Point.{coordinates}
use Rattle.paseto_edwards25519.proofs.CurveLaws.{opposite-gives}
use Rattle.paseto_edwards25519.proofs.point.negate.Goals as goal

pub invariant_of-result-clause-on_curve : goal.invariant_of-result-clause-on_curve
invariant_of-result-clause-on_curve c =
    let p = c.args.p in
    rw (c.negative.ensures.value, c.negative-2.ensures.value) (opposite-gives (coordinates p) p.on_curve).on_curve

pub returns : goal.returns
returns c =
    let p = c.args.p in
    rw (c.negative.ensures.value, c.negative-2.ensures.value) (opposite-gives (coordinates p) p.on_curve).is

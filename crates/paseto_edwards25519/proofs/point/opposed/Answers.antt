use Rattle.paseto_edwards25519.specs.Field.{number}
use Rattle.paseto_edwards25519.proofs.CurveLaws.{opposed-gives}
use Rattle.paseto_edwards25519.proofs.FieldLaws.{number-below}
use Rattle.paseto_edwards25519.proofs.point.opposed.Goals as goal

pub invariant_of-result-clause-on_curve : goal.invariant_of-result-clause-on_curve
invariant_of-result-clause-on_curve c =
    let q = c.args.q.now in
    rw c.negative.ensures.value
    (opposed-gives (number q.difference) (number q.total) (number q.z) (number q.scaled)
    (number-below q.difference) (number-below q.total) (number-below q.scaled) q.on_curve).on_curve

pub returns-clause-is : goal.returns-clause-is
returns-clause-is c =
    let q = c.args.q.now in
    rw c.negative.ensures.value
    (opposed-gives (number q.difference) (number q.total) (number q.z) (number q.scaled)
    (number-below q.difference) (number-below q.total) (number-below q.scaled) q.on_curve).is

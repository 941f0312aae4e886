use Rattle.paseto_edwards25519.specs.Field.{number}
use Rattle.paseto_edwards25519.proofs.CurveLaws.{between-of}
use Rattle.paseto_edwards25519.proofs.FieldLaws.{number-below}
use Rattle.paseto_edwards25519.proofs.point.prepared.Goals as goal

pub invariant_of-result-clause-on_curve : goal.invariant_of-result-clause-on_curve
invariant_of-result-clause-on_curve c =
    let q = c.args.q in
    let kept = between-of (number q.x) (number q.y) (number q.z) (number q.t) (number-below q.x) (number-below q.y) (number-below q.t) in
    rw (c.sub.ensures.value, c.add.ensures.value, c.mul.ensures.value, c.twice_d.ensures.value, kept) q.on_curve

pub returns : goal.returns
returns c =
    let q = c.args.q in
    let kept = between-of (number q.x) (number q.y) (number q.z) (number q.t) (number-below q.x) (number-below q.y) (number-below q.t) in
    rw (c.sub.ensures.value, c.add.ensures.value, c.mul.ensures.value, c.twice_d.ensures.value, kept)

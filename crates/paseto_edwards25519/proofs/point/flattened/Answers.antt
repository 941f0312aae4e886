use Rattle.paseto_edwards25519.specs.Field.{number}
use Rattle.paseto_edwards25519.proofs.CurveLaws.{flat-gives}
use Rattle.paseto_edwards25519.proofs.point.flattened.Goals as goal

pub invariant_of-result-clause-on_curve : goal.invariant_of-result-clause-on_curve
invariant_of-result-clause-on_curve c =
    let p = c.args.p in
    (flat-gives (number p.x) (number p.y) (number p.z) (number p.t) p.on_curve).on_curve

pub returns : goal.returns
returns c =
    let p = c.args.p in
    (flat-gives (number p.x) (number p.y) (number p.z) (number p.t) p.on_curve).is

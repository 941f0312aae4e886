use Rattle.paseto_edwards25519.specs.Field.{number}
use Rattle.paseto_edwards25519.proofs.CurveLaws.{affine-gives}
use Rattle.paseto_edwards25519.proofs.encoding.affine.Goals as goal

pub invariant_of-result-clause-on_curve : goal.invariant_of-result-clause-on_curve
invariant_of-result-clause-on_curve c =
    rw (c.one.ensures.value, c.mul.ensures.value) (affine-gives (number c.args.x) (number c.args.y) c.requires.on_curve).on_curve

pub returns : goal.returns
returns c = rw (c.one.ensures.value, c.mul.ensures.value) (affine-gives (number c.args.x) (number c.args.y) c.requires.on_curve).is

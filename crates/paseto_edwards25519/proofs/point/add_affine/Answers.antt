use Rattle.std.proofs.Common.{◌∙◌, sym, ap}
use Rattle.paseto_edwards25519.specs.Field.{number, times}
use Rattle.paseto_edwards25519.proofs.FieldLaws.{number-times_one}
use Rattle.paseto_edwards25519.proofs.point.add_affine.Goals as goal

pub add_at-requires-clause-product : goal.add_at-requires-clause-product
add_at-requires-clause-product c =
    number-times_one c.args.p.z ∙ ap (times (number c.args.p.z)) (sym c.requires)

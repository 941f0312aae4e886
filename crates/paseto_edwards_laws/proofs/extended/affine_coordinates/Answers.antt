use Rattle.paseto_edwards_laws.proofs.ExtendedLaws.{affine-stands}
use Rattle.paseto_edwards_laws.proofs.extended.affine_coordinates.Goals as goal

pub returns : goal.returns
returns c = affine-stands

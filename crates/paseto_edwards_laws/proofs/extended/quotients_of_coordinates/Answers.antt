use Rattle.paseto_edwards_laws.proofs.ExtendedLaws.{affine-x, affine-y}
use Rattle.paseto_edwards_laws.proofs.extended.quotients_of_coordinates.Goals as goal

pub returns : goal.returns
returns c = record { x = affine-x; y = affine-y }

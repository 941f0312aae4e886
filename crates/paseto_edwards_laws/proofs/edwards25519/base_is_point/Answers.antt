use Rattle.paseto_edwards_laws.proofs.CurveLaws.{base-point}
use Rattle.paseto_edwards_laws.proofs.edwards25519.base_is_point.Goals as goal

pub returns : goal.returns
returns c = base-point

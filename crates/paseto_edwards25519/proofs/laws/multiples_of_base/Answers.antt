use Rattle.paseto_edwards_laws.proofs.CurveLaws.{base-point}
use Rattle.paseto_edwards_laws.specs.Edwards25519.{base}
use Rattle.paseto_edwards25519.proofs.CurveLaws.{multiple-is_point}
use Rattle.paseto_edwards25519.proofs.laws.multiples_of_base.Goals as goal

pub returns : goal.returns
returns c n = multiple-is_point n base base-point

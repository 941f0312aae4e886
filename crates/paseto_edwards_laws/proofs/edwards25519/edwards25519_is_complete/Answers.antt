use Rattle.paseto_edwards_laws.proofs.CurveLaws.{curve}
use Rattle.paseto_edwards_laws.proofs.edwards25519.edwards25519_is_complete.Goals as goal

pub returns : goal.returns
returns c = curve

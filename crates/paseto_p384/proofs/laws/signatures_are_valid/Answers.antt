use Rattle.paseto_p384.proofs.SignatureLaws.{signed-verifies}
use Rattle.paseto_p384.proofs.laws.signatures_are_valid.Goals as goal

pub returns : goal.returns
returns c = signed-verifies

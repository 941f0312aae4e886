use Rattle.paseto_p384.proofs.AgreementLaws.{shared-same}
use Rattle.paseto_p384.proofs.laws.shared_secret_is_common.Goals as goal

pub returns : goal.returns
returns c = shared-same

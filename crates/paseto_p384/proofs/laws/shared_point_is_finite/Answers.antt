use Rattle.paseto_p384.proofs.AgreementLaws.{shared-finite}
use Rattle.paseto_p384.proofs.laws.shared_point_is_finite.Goals as goal

pub returns : goal.returns
returns c = shared-finite

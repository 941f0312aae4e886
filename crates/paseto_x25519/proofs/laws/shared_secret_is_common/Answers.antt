use Rattle.paseto_x25519.proofs.AgreementLaws.{secrets_are_common}
use Rattle.paseto_x25519.proofs.laws.shared_secret_is_common.Goals as goal

pub returns : goal.returns
returns c = secrets_are_common

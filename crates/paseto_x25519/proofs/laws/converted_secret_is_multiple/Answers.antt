use Rattle.paseto_x25519.proofs.AgreementLaws.{agreement_is_multiple}
use Rattle.paseto_x25519.proofs.laws.converted_secret_is_multiple.Goals as goal

pub returns : goal.returns
returns c = agreement_is_multiple

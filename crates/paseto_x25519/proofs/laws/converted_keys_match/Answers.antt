use Rattle.paseto_x25519.proofs.AgreementLaws.{keys_match}
use Rattle.paseto_x25519.proofs.laws.converted_keys_match.Goals as goal

pub returns : goal.returns
returns c = keys_match

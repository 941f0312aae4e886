use Rattle.paseto_edwards25519.proofs.BytesLaws.{number-of_bytes}
use Rattle.paseto_edwards25519.proofs.laws.number_of_bytes.Goals as goal

pub returns : goal.returns
returns c = number-of_bytes

use Rattle.paseto_edwards25519.proofs.DecodingLaws.{decoded-encoded}
use Rattle.paseto_edwards25519.proofs.laws.decoding.Goals as goal

pub returns : goal.returns
returns c = decoded-encoded

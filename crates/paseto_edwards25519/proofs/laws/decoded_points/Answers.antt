use Rattle.paseto_edwards25519.proofs.DecodingLaws.{decoded-is_point}
use Rattle.paseto_edwards25519.proofs.laws.decoded_points.Goals as goal

pub returns : goal.returns
returns c = decoded-is_point

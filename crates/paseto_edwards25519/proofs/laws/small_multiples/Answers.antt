use Rattle.paseto_edwards25519.proofs.OrderLaws.{small-divides}
use Rattle.paseto_edwards25519.proofs.laws.small_multiples.Goals as goal

pub returns : goal.returns
returns c = small-divides

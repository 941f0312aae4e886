use Rattle.paseto_edwards25519.proofs.OrderLaws.{verifier-sum}
use Rattle.paseto_edwards25519.proofs.laws.signature_sum.Goals as goal

pub returns : goal.returns
returns c = verifier-sum

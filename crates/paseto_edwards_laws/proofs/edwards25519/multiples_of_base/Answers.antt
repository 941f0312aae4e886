use Rattle.paseto_edwards_laws.proofs.OrderLaws.{base-multiples}
use Rattle.paseto_edwards_laws.proofs.edwards25519.multiples_of_base.Goals as goal

pub returns : goal.returns
returns c = base-multiples

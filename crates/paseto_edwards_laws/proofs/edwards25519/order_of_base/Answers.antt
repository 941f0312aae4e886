use Rattle.paseto_edwards_laws.proofs.OrderLaws.{order-neutral}
use Rattle.paseto_edwards_laws.proofs.edwards25519.order_of_base.Goals as goal

pub returns : goal.returns
returns c = order-neutral

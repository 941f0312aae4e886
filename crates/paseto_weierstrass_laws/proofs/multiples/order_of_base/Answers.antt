use Rattle.paseto_weierstrass_laws.proofs.OrderLaws.{order-neutral}
use Rattle.paseto_weierstrass_laws.proofs.multiples.order_of_base.Goals as goal

pub returns : goal.returns
returns c = order-neutral.same

use Rattle.paseto_weierstrass_laws.proofs.PointOrders.{point-order}
use Rattle.paseto_weierstrass_laws.proofs.multiples.order_of_points.Goals as goal

pub returns : goal.returns
returns c = λ p is_point. (point-order p is_point).same

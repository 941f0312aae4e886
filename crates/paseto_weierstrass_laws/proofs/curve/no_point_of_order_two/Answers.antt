use Rattle.paseto_weierstrass_laws.proofs.RootLaws.{no-root}
use Rattle.paseto_weierstrass_laws.proofs.curve.no_point_of_order_two.Goals as goal

pub returns : goal.returns
returns c = no-root

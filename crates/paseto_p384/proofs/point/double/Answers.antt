use Rattle.paseto_weierstrass_laws.specs.Point.{point_double}
use Rattle.paseto_p384.proofs.point.double.Goals as goal

pub returns : goal.returns
unfolding point_double
returns c = cc

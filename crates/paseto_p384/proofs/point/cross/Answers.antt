use Rattle.paseto_weierstrass_laws.specs.Point.{cross}
use Rattle.paseto_p384.proofs.point.cross.Goals as goal

pub returns : goal.returns
unfolding cross
returns c = cc

use Rattle.paseto_weierstrass_laws.specs.Point.{point_add}
use Rattle.paseto_p384.proofs.point.sum_of.Goals as goal

pub returns : goal.returns
unfolding point_add
returns c p q h = cc (h.xx, h.yy, h.zz, h.xy, h.yz, h.xz)

use Rattle.paseto_weierstrass_laws.proofs.PointLaws as laws
use Rattle.paseto_weierstrass_laws.proofs.curve.base_is_point.Goals as goal

pub returns : goal.returns
returns c = laws.base-is_point

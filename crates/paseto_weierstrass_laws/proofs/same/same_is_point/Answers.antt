use Rattle.paseto_weierstrass_laws.proofs.PointLaws.{same-is_point}
use Rattle.paseto_weierstrass_laws.proofs.same.same_is_point.Goals as goal

pub returns : goal.returns
returns c = λ p q. same-is_point

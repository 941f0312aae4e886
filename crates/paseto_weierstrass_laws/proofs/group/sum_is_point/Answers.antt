use Rattle.paseto_weierstrass_laws.proofs.SumLaws.{sum-is_point}
use Rattle.paseto_weierstrass_laws.proofs.group.sum_is_point.Goals as goal

pub returns : goal.returns
returns c = sum-is_point

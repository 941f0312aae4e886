use Rattle.paseto_weierstrass_laws.proofs.Opposites.{opposite-is_point, opposite-sum}
use Rattle.paseto_weierstrass_laws.proofs.group.sum_with_opposite.Goals as goal

pub returns-clause-point : goal.returns-clause-point
returns-clause-point c = opposite-is_point

pub returns-clause-sum : goal.returns-clause-sum
returns-clause-sum c = opposite-sum

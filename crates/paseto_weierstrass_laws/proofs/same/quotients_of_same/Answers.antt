use Rattle.paseto_weierstrass_laws.proofs.PointLaws.{same-quotient}
use Rattle.paseto_weierstrass_laws.proofs.same.quotients_of_same.Goals as goal

pub returns-clause-x : goal.returns-clause-x
returns-clause-x c p q h s = same-quotient p.x p.z q.x q.z s.ratio h.x_below s.below s.nonzero s.x s.z

pub returns-clause-y : goal.returns-clause-y
returns-clause-y c p q h s = same-quotient p.y p.z q.y q.z s.ratio h.y_below s.below s.nonzero s.y s.z

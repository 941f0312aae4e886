use Rattle.paseto_weierstrass_laws.proofs.Lines.{tangent-sum}
use Rattle.paseto_weierstrass_laws.proofs.group.sum_by_tangent.Goals as goal

pub returns : goal.returns
returns c = tangent-sum

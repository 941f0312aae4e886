use Rattle.paseto_weierstrass_laws.proofs.SumLaws.{sum_comm}
use Rattle.paseto_weierstrass_laws.proofs.group.sum_commutes.Goals as goal

pub returns : goal.returns
returns c = sum_comm

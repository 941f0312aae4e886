use Rattle.paseto_weierstrass_laws.proofs.SumLaws.{double-same}
use Rattle.paseto_weierstrass_laws.proofs.group.double_is_sum.Goals as goal

pub returns : goal.returns
returns c = double-same

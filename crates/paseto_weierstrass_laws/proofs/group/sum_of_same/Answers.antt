use Rattle.paseto_weierstrass_laws.proofs.SumLaws.{sum-same}
use Rattle.paseto_weierstrass_laws.proofs.group.sum_of_same.Goals as goal

pub returns : goal.returns
returns c = sum-same

use Rattle.paseto_weierstrass_laws.proofs.GroupLaws.{sum-associates}
use Rattle.paseto_weierstrass_laws.proofs.group.sum_associates.Goals as goal

pub returns : goal.returns
returns c = sum-associates

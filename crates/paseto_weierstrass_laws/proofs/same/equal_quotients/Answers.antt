use Rattle.paseto_weierstrass_laws.proofs.PointLaws.{same_of_across}
use Rattle.paseto_weierstrass_laws.proofs.same.equal_quotients.Goals as goal

pub returns : goal.returns
returns c = same_of_across

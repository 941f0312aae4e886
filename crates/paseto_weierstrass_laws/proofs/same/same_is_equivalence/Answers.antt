use Rattle.paseto_weierstrass_laws.proofs.PointLaws.{same_refl, same_sym, same_trans}
use Rattle.paseto_weierstrass_laws.proofs.same.same_is_equivalence.Goals as goal

pub returns-clause-reflexive : goal.returns-clause-reflexive
returns-clause-reflexive c = same_refl

pub returns-clause-symmetric : goal.returns-clause-symmetric
returns-clause-symmetric c p q = same_sym

pub returns-clause-transitive : goal.returns-clause-transitive
returns-clause-transitive c p q r = same_trans

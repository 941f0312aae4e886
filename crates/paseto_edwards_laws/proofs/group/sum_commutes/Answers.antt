use Rattle.paseto_edwards_laws.proofs.GroupLaws.{sum-commutative}
use Rattle.paseto_edwards_laws.proofs.group.sum_commutes.Goals as goal

pub returns : goal.returns
returns c = sum-commutative

use Rattle.paseto_edwards_laws.proofs.GroupLaws.{sum-associative}
use Rattle.paseto_edwards_laws.proofs.group.sum_associates.Goals as goal

pub returns : goal.returns
returns c = sum-associative

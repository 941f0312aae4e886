use Rattle.paseto_edwards_laws.proofs.GroupLaws.{sum-opposite}
use Rattle.paseto_edwards_laws.proofs.group.sum_with_opposite.Goals as goal

pub returns : goal.returns
returns c = sum-opposite

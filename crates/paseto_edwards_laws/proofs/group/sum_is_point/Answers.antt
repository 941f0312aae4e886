use Rattle.paseto_edwards_laws.proofs.GroupLaws.{sum-point}
use Rattle.paseto_edwards_laws.proofs.group.sum_is_point.Goals as goal

pub returns : goal.returns
returns c = sum-point

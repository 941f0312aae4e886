use Rattle.paseto_edwards_laws.proofs.GroupLaws.{opposite-point}
use Rattle.paseto_edwards_laws.proofs.group.opposite_is_point.Goals as goal

pub returns : goal.returns
returns c = opposite-point

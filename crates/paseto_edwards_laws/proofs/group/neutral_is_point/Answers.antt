use Rattle.paseto_edwards_laws.proofs.GroupLaws.{neutral-point}
use Rattle.paseto_edwards_laws.proofs.group.neutral_is_point.Goals as goal

pub returns : goal.returns
returns c = neutral-point

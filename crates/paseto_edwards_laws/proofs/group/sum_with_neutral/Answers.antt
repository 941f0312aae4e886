use Rattle.paseto_edwards_laws.proofs.GroupLaws.{sum-neutral}
use Rattle.paseto_edwards_laws.proofs.group.sum_with_neutral.Goals as goal

pub returns : goal.returns
returns c = sum-neutral

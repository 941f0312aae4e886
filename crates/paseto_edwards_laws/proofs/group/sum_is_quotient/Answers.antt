use Rattle.paseto_edwards_laws.proofs.GroupLaws.{sum-first, sum-second}
use Rattle.paseto_edwards_laws.proofs.group.sum_is_quotient.Goals as goal

pub returns : goal.returns
returns c = record { x = sum-first; y = sum-second }

use Rattle.paseto_edwards_laws.proofs.ExtendedLaws.{added-stands}
use Rattle.paseto_edwards_laws.proofs.extended.added_is_sum.Goals as goal

pub returns : goal.returns
returns c = added-stands

use Rattle.paseto_edwards_laws.proofs.ExtendedLaws.{opposite-stands}
use Rattle.paseto_edwards_laws.proofs.extended.negated_is_opposite.Goals as goal

pub returns : goal.returns
returns c = opposite-stands

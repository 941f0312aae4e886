use Rattle.paseto_edwards_laws.proofs.ExtendedLaws.{doubled-stands}
use Rattle.paseto_edwards_laws.proofs.extended.doubled_is_sum.Goals as goal

pub returns : goal.returns
returns c = doubled-stands

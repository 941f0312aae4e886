use Rattle.paseto.proofs.SameWords.{no_length, no_number}
use Rattle.paseto.proofs.commands.times.seconds_of.Goals as goal

pub returns-in_default : goal.returns-in_default
returns-in_default c = no_length _ c.in_default.ensures.unit

pub returns-in-None : goal.returns-in-None
returns-in-None c = no_number _ c.in-Some.front.now c.in-Some.unit c.in-Some.ensures.unit c.in-None.ensures

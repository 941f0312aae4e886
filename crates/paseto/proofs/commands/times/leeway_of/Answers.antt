use Rattle.std.proofs.Common.{inr}
use Rattle.paseto.proofs.commands.times.leeway_of.Goals as goal

pub returns-in_default-seconds_of-clause-none : goal.returns-in_default-seconds_of-clause-none
returns-in_default-seconds_of-clause-none c = rw c.in-Some.is (inr (λ seconds is. c.in_default-seconds_of.ensures seconds is.0))

use Rattle.paseto.proofs.commands.issue.begin_of.Goals as goal

pub returns-in-Some-clause-none : goal.returns-in-Some-clause-none
returns-in-Some-clause-none c = rw c.in-Some.is (rw c.in-Some.is at c.time_of.ensures.none)

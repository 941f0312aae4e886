use Rattle.std.proofs.Common.{inr, sym, ◌∙◌}
use Rattle.paseto.proofs.tokens.has_ended.Goals as goal

pub returns-in-Some-moment_of-clause-ended : goal.returns-in-Some-moment_of-clause-ended
returns-in-Some-moment_of-clause-ended c = λ yes. (c.in-Some-moment_of.moment, rw c.in-Some.is c.in-Some-moment_of.ensures, sym c.is_over.ensures ∙ yes)

pub returns-in-Some-moment_of-clause-open : goal.returns-in-Some-moment_of-clause-open
returns-in-Some-moment_of-clause-open c = λ no. rw c.in-Some.is (inr (c.in-Some-moment_of.moment, c.in-Some-moment_of.ensures, sym c.is_over.ensures ∙ no))

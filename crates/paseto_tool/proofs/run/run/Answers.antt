use Rattle.std.proofs.Common.{rules, ◌∙◌, ap, Err}
use Rattle.std.proofs.lemmas.Bool.{false≢true}
use Rattle.paseto_tool.proofs.Refusals.{HasBadKey-usage, status_of-other}
use Rattle.paseto_tool.proofs.run.run.Goals as goal

pub returns-in-Ok-clause-bad_key : goal.returns-in-Ok-clause-bad_key
returns-in-Ok-clause-bad_key g c = λ bad. absurd (false≢true (c.in-Ok.ensures.bad_key bad))

pub returns-in-Err-clause-bad_key : goal.returns-in-Err-clause-bad_key
returns-in-Err-clause-bad_key g c = λ bad.
    let other = status_of-other c.in-Err.error (λ e. HasBadKey-usage _ bad (c.in-Err.ensures.usage.0 (ap Err e))) in
    c.status.ensures ∙ other

pub returns-in-Ok-clause-quiet : goal.returns-in-Ok-clause-quiet
returns-in-Ok-clause-quiet g c = search rules

pub returns-in-Err-clause-written : goal.returns-in-Err-clause-written
returns-in-Err-clause-written g c = search rules

pub returns-in-Err-clause-refused : goal.returns-in-Err-clause-refused
returns-in-Err-clause-refused g c = search rules

pub returns-in-Err-clause-unread : goal.returns-in-Err-clause-unread
returns-in-Err-clause-unread g c = search rules

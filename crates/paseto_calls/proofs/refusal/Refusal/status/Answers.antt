use Rattle.std.proofs.Common.{rules}
use Rattle.paseto_calls.proofs.refusal.Refusal.status.Goals as goal

pub returns-in-Expired : goal.returns-in-Expired
returns-in-Expired c = search rules

pub returns-in-UseBeforeAvailable : goal.returns-in-UseBeforeAvailable
returns-in-UseBeforeAvailable c = search rules

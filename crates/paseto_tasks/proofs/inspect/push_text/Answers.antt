use Rattle.std.proofs.Common.{rules}
use Rattle.paseto_tasks.proofs.inspect.push_text.Goals as goal

pub returns-clause-appended : goal.returns-clause-appended
returns-clause-appended c = search rules

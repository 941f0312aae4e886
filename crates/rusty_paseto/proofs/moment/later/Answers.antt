use Rattle.std.proofs.Common.{rules}
use Rattle.rusty_paseto.proofs.moment.later.Goals as goal

pub returns-clause-ok : goal.returns-clause-ok
returns-clause-ok c = search rules

use Rattle.std.proofs.Common.{rules}
use Rattle.rusty_paseto_generic.proofs.parsers.check_entry.check_found.Goals as goal

pub returns-in-None-clause-ok : goal.returns-in-None-clause-ok
returns-in-None-clause-ok g c = search rules

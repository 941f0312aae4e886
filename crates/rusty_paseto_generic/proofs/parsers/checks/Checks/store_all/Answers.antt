use Rattle.std.proofs.Common.{rules}
use Rattle.rusty_paseto_generic.proofs.parsers.checks.Checks.store_all.Goals as goal

pub returns-clause-whole : goal.returns-clause-whole
returns-clause-whole g c = search rules

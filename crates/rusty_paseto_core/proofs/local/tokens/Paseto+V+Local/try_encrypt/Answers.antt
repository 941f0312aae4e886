use Rattle.std.proofs.Common.{rules}
use Rattle.rusty_paseto_core.proofs.local.tokens.Paseto+V+Local.try_encrypt.Goals as goal

pub returns-clause-ok : goal.returns-clause-ok
returns-clause-ok g c = search rules

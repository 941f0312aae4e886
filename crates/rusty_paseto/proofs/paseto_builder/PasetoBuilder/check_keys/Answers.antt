use Rattle.std.proofs.Common.{rules}
use Rattle.rusty_paseto.proofs.paseto_builder.PasetoBuilder.check_keys.Goals as goal

pub returns-clause-ok : goal.returns-clause-ok
returns-clause-ok g c = search rules

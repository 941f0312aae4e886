use Rattle.std.proofs.Common.{rules}
use Rattle.rusty_paseto_core.proofs.local.tokens.Paseto+V+Local.try_decrypt.Goals as goal

pub returns : goal.returns
returns g c = search rules

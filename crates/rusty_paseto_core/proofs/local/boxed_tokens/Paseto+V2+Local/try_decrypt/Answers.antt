use Rattle.std.proofs.Common.{rules}
use Rattle.rusty_paseto_core.proofs.local.boxed_tokens.Paseto+V2+Local.try_decrypt.Goals as goal

pub returns : goal.returns
returns g c = search rules

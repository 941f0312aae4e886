use Rattle.std.proofs.Common.{rules}
use Rattle.rusty_paseto_parts.proofs.keys.symmetric_key.PasetoSymmetricKey.clone.Goals as goal

pub returns : goal.returns
returns g c = search rules

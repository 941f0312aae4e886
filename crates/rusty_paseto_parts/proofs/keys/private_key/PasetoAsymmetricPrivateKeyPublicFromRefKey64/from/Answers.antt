use Rattle.std.proofs.Common.{rules}
use Rattle.rusty_paseto_parts.proofs.keys.private_key.PasetoAsymmetricPrivateKeyPublicFromRefKey64.from.Goals as goal

pub returns : goal.returns
returns g c = search rules

use Rattle.std.proofs.Common.{rules}
use Rattle.rusty_paseto_parts.proofs.keys.public_key.PasetoAsymmetricPublicKeyPublicFromRefKey32.from.Goals as goal

pub returns : goal.returns
returns g c = search rules

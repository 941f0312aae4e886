use Rattle.std.proofs.Common.{rules}
use Rattle.rusty_paseto_parts.proofs.keys.public_key.PasetoAsymmetricPublicKeyV3PublicTryFromRefKey49.try_from.Goals as goal

pub invariant_of-result : goal.invariant_of-result
invariant_of-result c = search rules

pub returns-in-2 : goal.returns-in-2
returns-in-2 c = search rules

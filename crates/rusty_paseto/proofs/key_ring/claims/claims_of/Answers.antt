use Rattle.std.proofs.Common.{rules}
use Rattle.rusty_paseto.proofs.key_ring.claims.claims_of.Goals as goal

pub returns : goal.returns
returns g c = search rules

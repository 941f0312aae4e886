use Rattle.std.proofs.Common.{rules}
use Rattle.paseto_keys.proofs.ring.claims_of.Goals as goal

pub returns : goal.returns
returns g c = search rules

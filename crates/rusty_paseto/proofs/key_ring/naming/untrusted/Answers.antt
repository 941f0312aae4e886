use Rattle.std.proofs.Common.{rules}
use Rattle.rusty_paseto.proofs.key_ring.naming.untrusted.Goals as goal

pub returns-in_default : goal.returns-in_default
returns-in_default c = search rules

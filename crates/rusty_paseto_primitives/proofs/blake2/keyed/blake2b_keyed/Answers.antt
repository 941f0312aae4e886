use Rattle.std.proofs.Common.{rules}
use Rattle.rusty_paseto_primitives.proofs.blake2.keyed.blake2b_keyed.Goals as goal

pub returns : goal.returns
returns g c = search rules

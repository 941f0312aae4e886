use Rattle.std.proofs.Common.{refl}
use Rattle.rusty_paseto_primitives.specs.Blake2.Keyed.{hash_after}
use Rattle.rusty_paseto_primitives.proofs.blake2.chain.Chain.new.Goals as goal

pub returns : goal.returns
unfolding hash_after
returns c input = (refl, refl)

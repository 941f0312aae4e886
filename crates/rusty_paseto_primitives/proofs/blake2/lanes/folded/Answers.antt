use Rattle.std.proofs.Common.{refl}
use Rattle.rusty_paseto_primitives.specs.Blake2.Block.{folded}
use Rattle.rusty_paseto_primitives.proofs.blake2.lanes.folded.Goals as goal

pub returns : goal.returns
unfolding folded
returns c values states e ev = rw (e, ev) refl

use Rattle.std.proofs.Common.{rules}
use Rattle.rusty_paseto_primitives.specs.Blake2.Block.{folded}
use Rattle.rusty_paseto_primitives.proofs.blake2.block.folded.Goals as goal

pub returns : goal.returns
unfolding folded
returns c = search rules

use Rattle.std.proofs.Common.{rules}
use Rattle.rusty_paseto_primitives.specs.Blake2.Block.{work_vector}
use Rattle.rusty_paseto_primitives.proofs.blake2.block.work_vector.Goals as goal

pub returns : goal.returns
unfolding work_vector
returns c = search rules

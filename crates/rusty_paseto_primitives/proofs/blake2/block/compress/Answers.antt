use Rattle.rusty_paseto_primitives.specs.Blake2.Block.{compress}
use Rattle.rusty_paseto_primitives.proofs.blake2.block.compress.Goals as goal

pub returns : goal.returns
unfolding compress
returns c = rw (c.folded.ensures, c.twelve_rounds-v.ensures, c.work_vector.ensures)

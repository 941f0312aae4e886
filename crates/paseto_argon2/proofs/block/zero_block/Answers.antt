use Rattle.std.proofs.Common.{refl}
use Rattle.paseto_argon2.specs.Block.{registers}
use Rattle.paseto_argon2.proofs.block.zero_block.Goals as goal

pub returns : goal.returns
unfolding registers
returns c = refl

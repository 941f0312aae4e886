use Rattle.std.proofs.Common.{refl}
use Rattle.rusty_paseto_primitives.specs.ChaCha.Block.{quarter_round}
use Rattle.rusty_paseto_primitives.proofs.chacha.block.mixed.Goals as goal

pub returns : goal.returns
unfolding quarter_round
returns c =
    rw (c.rotate_left-b2.ensures, c.rotate_left-d2.ensures, c.rotate_left-b1.ensures, c.rotate_left-d1.ensures) refl

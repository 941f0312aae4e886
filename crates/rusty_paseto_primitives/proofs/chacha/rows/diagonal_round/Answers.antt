use Rattle.std.proofs.Common.{◌+◌, ◌%◌, slice_index, refl}
use Rattle.rusty_paseto_primitives.specs.ChaCha.Block.{diagonal_round}
use Rattle.rusty_paseto_primitives.proofs.chacha.rows.diagonal_round.Goals as goal

pub returns : goal.returns
unfolding diagonal_round
returns c s e =
    rw (c.mixed-turned.ensures (λ j. slice_index s j) (λ j. slice_index s (4 + (j + 1) % 4)) (λ j. slice_index s (8 + (j + 2) % 4))
    (λ j. slice_index s (12 + (j + 3) % 4)) (rw e refl)) refl

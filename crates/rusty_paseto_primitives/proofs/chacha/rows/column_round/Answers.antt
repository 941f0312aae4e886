use Rattle.std.proofs.Common.{◌+◌, slice_index}
use Rattle.rusty_paseto_primitives.specs.ChaCha.Block.{column_round}
use Rattle.rusty_paseto_primitives.proofs.chacha.rows.column_round.Goals as goal

pub returns : goal.returns
unfolding column_round
returns c s e =
    c.mixed.ensures (λ j. slice_index s j) (λ j. slice_index s (4 + j)) (λ j. slice_index s (8 + j)) (λ j. slice_index s (12 + j)) e

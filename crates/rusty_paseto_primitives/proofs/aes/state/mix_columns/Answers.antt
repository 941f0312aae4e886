use Rattle.std.proofs.Common.{refl}
use Rattle.rusty_paseto_primitives.specs.Aes.State.{mix_columns}
use Rattle.rusty_paseto_primitives.proofs.aes.state.mix_columns.Goals as goal

pub returns : goal.returns
unfolding mix_columns
returns c =
    rw (
      c.mixed_column-s0.ensures.row_0,
      c.mixed_column-s0.ensures.row_1,
      c.mixed_column-s0.ensures.row_2,
      c.mixed_column-s0.ensures.row_3,
      c.mixed_column-s4.ensures.row_0,
      c.mixed_column-s4.ensures.row_1,
      c.mixed_column-s4.ensures.row_2,
      c.mixed_column-s4.ensures.row_3,
      c.mixed_column-s8.ensures.row_0,
      c.mixed_column-s8.ensures.row_1,
      c.mixed_column-s8.ensures.row_2,
      c.mixed_column-s8.ensures.row_3,
      c.mixed_column-s12.ensures.row_0,
      c.mixed_column-s12.ensures.row_1,
      c.mixed_column-s12.ensures.row_2,
      c.mixed_column-s12.ensures.row_3,
    ) refl

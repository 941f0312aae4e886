use Rattle.std.proofs.Common.{refl}
use Rattle.rusty_paseto_primitives.specs.Aes.State.{shift_rows}
use Rattle.rusty_paseto_primitives.proofs.aes.state.shift_rows.Goals as goal

pub returns : goal.returns
unfolding shift_rows
returns c = refl

use Rattle.rusty_paseto_primitives.proofs.AesSteps.{shift_rows-planes}
use Rattle.rusty_paseto_primitives.proofs.aes.planes.shift_rows.Goals as goal

pub returns : goal.returns
returns c s e = rw e (shift_rows-planes s)

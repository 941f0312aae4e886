use Rattle.rusty_paseto_primitives.proofs.AesSteps.{turned_two-planes}
use Rattle.rusty_paseto_primitives.proofs.aes.planes.turned_two.Goals as goal

pub returns : goal.returns
returns c s e = rw e (turned_two-planes s)

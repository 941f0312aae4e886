use Rattle.rusty_paseto_primitives.proofs.AesSteps.{turned_one-planes}
use Rattle.rusty_paseto_primitives.proofs.aes.planes.turned_one.Goals as goal

pub returns : goal.returns
returns c s e = rw e (turned_one-planes s)

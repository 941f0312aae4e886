use Rattle.rusty_paseto_primitives.proofs.AesSteps.{planes-sum}
use Rattle.rusty_paseto_primitives.proofs.aes.planes.sum.Goals as goal

pub returns : goal.returns
returns c s t eq er = rw (eq, er) (planes-sum s t)

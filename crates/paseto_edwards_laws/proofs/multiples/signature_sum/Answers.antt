use Rattle.paseto_edwards_laws.proofs.MultipleLaws.{verifies}
use Rattle.paseto_edwards_laws.proofs.multiples.signature_sum.Goals as goal

pub returns : goal.returns
returns c = verifies

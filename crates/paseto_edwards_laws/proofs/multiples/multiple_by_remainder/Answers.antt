use Rattle.paseto_edwards_laws.proofs.MultipleLaws.{multiple-remainder}
use Rattle.paseto_edwards_laws.proofs.multiples.multiple_by_remainder.Goals as goal

pub returns : goal.returns
returns c = multiple-remainder

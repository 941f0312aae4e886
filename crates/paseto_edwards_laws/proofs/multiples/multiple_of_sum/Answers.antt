use Rattle.paseto_edwards_laws.proofs.MultipleLaws.{multiple-sum}
use Rattle.paseto_edwards_laws.proofs.multiples.multiple_of_sum.Goals as goal

pub returns : goal.returns
returns c = multiple-sum

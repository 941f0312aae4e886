use Rattle.paseto_edwards_laws.proofs.MultipleLaws.{multiple-plus}
use Rattle.paseto_edwards_laws.proofs.multiples.multiple_by_sum.Goals as goal

pub returns : goal.returns
returns c = multiple-plus

use Rattle.paseto_edwards_laws.proofs.MultipleLaws.{multiple-point}
use Rattle.paseto_edwards_laws.proofs.multiples.multiple_is_point.Goals as goal

pub returns : goal.returns
returns c = multiple-point

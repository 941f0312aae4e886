use Rattle.paseto_edwards_laws.proofs.MultipleLaws.{multiple-opposite}
use Rattle.paseto_edwards_laws.proofs.multiples.multiple_of_opposite.Goals as goal

pub returns : goal.returns
returns c = multiple-opposite

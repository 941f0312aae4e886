use Rattle.paseto_edwards_laws.proofs.MultipleLaws.{multiple-times}
use Rattle.paseto_edwards_laws.proofs.multiples.multiple_by_product.Goals as goal

pub returns : goal.returns
returns c = multiple-times

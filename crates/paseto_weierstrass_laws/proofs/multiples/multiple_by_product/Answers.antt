use Rattle.paseto_weierstrass_laws.specs.Multiples.{multiple_of}
use Rattle.paseto_weierstrass_laws.proofs.MultipleLaws.{multiple-itself, multiple-times}
use Rattle.paseto_weierstrass_laws.proofs.multiples.multiple_by_product.Goals as goal

pub returns : goal.returns
returns c = λ m n p h. (multiple-times p (multiple_of n p) m n h (multiple-itself n p h)).same

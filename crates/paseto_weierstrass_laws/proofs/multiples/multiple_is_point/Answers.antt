use Rattle.paseto_weierstrass_laws.proofs.MultipleLaws.{multiple-is_point}
use Rattle.paseto_weierstrass_laws.proofs.multiples.multiple_is_point.Goals as goal

pub returns : goal.returns
returns c = multiple-is_point

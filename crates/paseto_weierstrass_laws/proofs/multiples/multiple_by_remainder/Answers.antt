use Rattle.paseto_weierstrass_laws.specs.Curve.{order}
use Rattle.paseto_weierstrass_laws.specs.Multiples.{multiple_of}
use Rattle.paseto_weierstrass_laws.specs.Point.{base}
use Rattle.paseto_weierstrass_laws.proofs.MultipleLaws.{multiple-itself}
use Rattle.paseto_weierstrass_laws.proofs.PointLaws.{base-is_point}
use Rattle.paseto_weierstrass_laws.proofs.OrderLaws.{multiple-remainder, order-neutral}
use Rattle.paseto_weierstrass_laws.proofs.multiples.multiple_by_remainder.Goals as goal

pub returns : goal.returns
returns c = λ k. (multiple-remainder base (multiple_of k base) order k base-is_point order-neutral (multiple-itself k base base-is_point)).same

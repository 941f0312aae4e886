use Rattle.paseto_montgomery.specs.Words.{value}
use Rattle.paseto_primes.specs.Digits.{turn_sum}
use Rattle.paseto_weierstrass_laws.specs.Multiples.{IsMultiple}
use Rattle.paseto_weierstrass_laws.specs.Point.{base}
use Rattle.paseto_p384.specs.Point.{coordinates}
use Rattle.paseto_p384.proofs.point.comb.multiply_base.Given as goal

abbrev pub invariant-turns : goal.invariant-turns
invariant-turns l = IsMultiple base (coordinates l.sum) (turn_sum (value l.k 6) 24 l.i)

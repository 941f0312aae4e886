use Rattle.paseto_primes.proofs.PolynomialLaws.{at-polynomial}
use Rattle.paseto_primes.proofs.polynomial.values_of_polynomials.Goals as goal

pub returns : goal.returns
returns c = at-polynomial

use Rattle.paseto_primes.proofs.IdentityLaws.{by-equations}
use Rattle.paseto_primes.proofs.identity.equal_by_equations.Goals as goal

pub returns : goal.returns
returns c = by-equations

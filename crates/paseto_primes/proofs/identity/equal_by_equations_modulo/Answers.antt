use Rattle.paseto_primes.proofs.IdentityLaws.{by-equations_modulo}
use Rattle.paseto_primes.proofs.identity.equal_by_equations_modulo.Goals as goal

pub returns : goal.returns
returns c = by-equations_modulo

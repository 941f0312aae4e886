use Rattle.paseto_primes.proofs.IdentityLaws.{by-null}
use Rattle.paseto_primes.proofs.identity.equal_modulo.Goals as goal

pub returns : goal.returns
returns c = by-null

use Rattle.paseto_primes.proofs.IdentityLaws.{by-form}
use Rattle.paseto_primes.proofs.identity.equal_by_form.Goals as goal

pub returns : goal.returns
returns c = by-form

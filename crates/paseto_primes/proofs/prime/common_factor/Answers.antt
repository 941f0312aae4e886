use Rattle.paseto_primes.proofs.DivisorLaws.{cancel}
use Rattle.paseto_primes.proofs.prime.common_factor.Goals as goal

pub returns : goal.returns
returns c = cancel

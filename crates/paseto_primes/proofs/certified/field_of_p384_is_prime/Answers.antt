use Rattle.paseto_primes.proofs.FieldOfP384.{is-prime}
use Rattle.paseto_primes.proofs.certified.field_of_p384_is_prime.Goals as goal

pub returns : goal.returns
returns c = is-prime

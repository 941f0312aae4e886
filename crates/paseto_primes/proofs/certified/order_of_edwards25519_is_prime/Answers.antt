use Rattle.paseto_primes.proofs.OrderOfEdwards25519.{is-prime}
use Rattle.paseto_primes.proofs.certified.order_of_edwards25519_is_prime.Goals as goal

pub returns : goal.returns
returns c = is-prime

use Rattle.paseto_primes.proofs.PocklingtonLaws.{pocklington-divisor}
use Rattle.paseto_primes.proofs.certified.pocklington_divisor.Goals as goal

pub returns : goal.returns
returns c = pocklington-divisor

use Rattle.paseto_primes.proofs.PocklingtonLaws as laws
use Rattle.paseto_primes.proofs.certified.pocklington.Goals as goal

pub returns : goal.returns
returns c = laws.pocklington

use Rattle.paseto_primes.proofs.EulerLaws as laws
use Rattle.paseto_primes.proofs.power.inverse.Goals as goal

pub returns : goal.returns
returns c = laws.inverse

use Rattle.paseto_primes.proofs.EulerLaws as laws
use Rattle.paseto_primes.proofs.root.nonresidue.Goals as goal

pub returns : goal.returns
returns c = laws.nonresidue

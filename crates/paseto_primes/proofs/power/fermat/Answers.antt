use Rattle.paseto_primes.proofs.FermatLaws as laws
use Rattle.paseto_primes.proofs.power.fermat.Goals as goal

pub returns : goal.returns
returns c = laws.fermat

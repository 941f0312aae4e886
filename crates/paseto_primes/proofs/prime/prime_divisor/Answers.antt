use Rattle.paseto_primes.proofs.DivisorLaws as laws
use Rattle.paseto_primes.proofs.prime.prime_divisor.Goals as goal

pub returns : goal.returns
returns c = laws.prime-divisor

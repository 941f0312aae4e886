use Rattle.paseto_primes.proofs.CertificateLaws as laws
use Rattle.paseto_primes.proofs.certified.chain_of_certificates.Goals as goal

pub returns : goal.returns
returns c = laws.certified

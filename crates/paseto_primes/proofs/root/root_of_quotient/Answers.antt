use Rattle.paseto_primes.proofs.RootLaws.{quotient_root-is}
use Rattle.paseto_primes.proofs.root.root_of_quotient.Goals as goal

pub returns : goal.returns
returns c = quotient_root-is

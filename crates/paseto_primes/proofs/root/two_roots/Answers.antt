use Rattle.paseto_primes.proofs.EulerLaws.{two-roots}
use Rattle.paseto_primes.proofs.root.two_roots.Goals as goal

pub returns : goal.returns
returns c = two-roots

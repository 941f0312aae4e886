use Rattle.paseto_primes.proofs.ReductionLaws.{at-reduced}
use Rattle.paseto_primes.proofs.reduction.values_of_reduced.Goals as goal

pub returns : goal.returns
returns c = at-reduced

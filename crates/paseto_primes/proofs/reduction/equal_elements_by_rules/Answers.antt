use Rattle.paseto_primes.proofs.ReductionLaws.{elements-by_rules}
use Rattle.paseto_primes.proofs.reduction.equal_elements_by_rules.Goals as goal

pub returns : goal.returns
returns c = elements-by_rules

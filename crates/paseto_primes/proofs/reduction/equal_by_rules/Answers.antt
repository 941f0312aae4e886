use Rattle.paseto_primes.proofs.ReductionLaws.{by-rules}
use Rattle.paseto_primes.proofs.reduction.equal_by_rules.Goals as goal

pub returns : goal.returns
returns c = by-rules

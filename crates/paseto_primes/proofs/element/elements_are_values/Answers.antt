use Rattle.paseto_primes.proofs.ElementLaws.{element-value}
use Rattle.paseto_primes.proofs.element.elements_are_values.Goals as goal

pub returns : goal.returns
returns c = element-value

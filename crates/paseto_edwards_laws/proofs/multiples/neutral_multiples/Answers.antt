use Rattle.paseto_edwards_laws.proofs.MultipleLaws.{neutral-multiples}
use Rattle.paseto_edwards_laws.proofs.multiples.neutral_multiples.Goals as goal

pub returns : goal.returns
returns c = neutral-multiples

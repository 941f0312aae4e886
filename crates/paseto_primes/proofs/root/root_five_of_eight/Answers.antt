use Rattle.std.proofs.Common.{add-one}
use Rattle.paseto_primes.proofs.RootLaws.{root-five_of_eight}
use Rattle.paseto_primes.proofs.root.root_five_of_eight.Goals as goal

pub returns : goal.returns
returns c = λ p k a x prime p_is e. rw add-one (root-five_of_eight p k a x prime p_is e)

use Rattle.std.proofs.Common.{add-one}
use Rattle.paseto_primes.proofs.RootLaws.{root-three_of_four}
use Rattle.paseto_primes.proofs.root.root_three_of_four.Goals as goal

pub returns : goal.returns
returns c = λ p k a x prime p_is e. rw add-one (root-three_of_four p k a x prime p_is e)

use Rattle.paseto_p384.specs.Element.{number}
use Rattle.paseto_p384.proofs.point.comb.known_multiple.Goals as goal

pub invariant_of-result : goal.invariant_of-result
invariant_of-result c = record { below = c.entry-found.ensures.x_below }

pub invariant_of-result-2 : goal.invariant_of-result-2
invariant_of-result-2 c = record { below = c.entry-found.ensures.y_below }

pub returns : goal.returns
unfolding number
returns c = c.entry-found.ensures.multiple

use Rattle.paseto_p384.specs.Encoding.{right_side}
use Rattle.paseto_p384.proofs.encoding.right_side.Goals as goal

pub returns : goal.returns
unfolding right_side
returns c = cc

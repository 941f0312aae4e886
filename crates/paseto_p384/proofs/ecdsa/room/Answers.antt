use Rattle.std.proofs.Common.{refl}
use Rattle.paseto_montgomery.specs.Words.{value, weight}
use Rattle.paseto_p384.proofs.ecdsa.room.Goals as goal

pub returns : goal.returns
unfolding value weight
returns c = refl

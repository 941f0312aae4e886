use Rattle.std.proofs.Common.{refl}
use Rattle.paseto_x25519.specs.Agreement.{clamped}
use Rattle.paseto_x25519.proofs.agreement.clamped.Goals as goal

pub returns : goal.returns
unfolding clamped
returns c = refl

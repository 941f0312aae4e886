use Rattle.std.proofs.Common.{ap}
use Rattle.paseto_ed25519.specs.Ed25519.{clamped}
use Rattle.paseto_ed25519.proofs.signing.clamped.Goals as goal

pub returns : goal.returns
unfolding clamped
returns c = ap clamped c.array-scalar.ensures

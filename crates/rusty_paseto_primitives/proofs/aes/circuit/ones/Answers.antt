use Rattle.std.proofs.Common.{refl}
use Rattle.rusty_paseto_primitives.specs.Aes.Planes.{byte, plane}
use Rattle.rusty_paseto_primitives.proofs.aes.circuit.ones.Goals as goal

pub returns : goal.returns
unfolding byte plane
returns c = refl

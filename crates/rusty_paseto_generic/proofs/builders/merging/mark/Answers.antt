use Rattle.std.proofs.Common.{refl}
use Rattle.std.specs.Float.{float_is_finite}
use Rattle.rusty_paseto_generic.proofs.builders.merging.mark.Goals as goal

pub returns : goal.returns
unfolding float_is_finite lib.Ieee.of_bits
returns c = rw c.from.ensures refl

use Rattle.std.proofs.Common.{◌++◌, map}
use Rattle.std.specs.List.{range_with_len}
use Rattle.rusty_paseto_primitives.specs.Aes.Circuit.{multiplied_gates, multiplied_outputs}
use Rattle.rusty_paseto_primitives.proofs.AesCircuits.{gates_on_planes}
use Rattle.rusty_paseto_primitives.proofs.aes.circuit.multiplied.Goals as goal

pub returns : goal.returns
returns c f g e d = rw (e, d) (gates_on_planes 18 multiplied_gates multiplied_outputs (map f (range_with_len 0 22) ++ map g (range_with_len 0 9)))

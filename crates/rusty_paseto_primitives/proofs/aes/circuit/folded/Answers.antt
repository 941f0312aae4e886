use Rattle.std.proofs.Common.{map}
use Rattle.std.specs.List.{range_with_len}
use Rattle.rusty_paseto_primitives.specs.Aes.Circuit.{folded_gates, folded_outputs}
use Rattle.rusty_paseto_primitives.proofs.AesCircuits.{gates_on_planes}
use Rattle.rusty_paseto_primitives.proofs.aes.circuit.folded.Goals as goal

pub returns : goal.returns
returns c f e = rw e (gates_on_planes 4 folded_gates folded_outputs (map f (range_with_len 0 22)))

use Rattle.std.proofs.Common.{◌++◌, ◌∷◌, [], true, map}
use Rattle.std.specs.List.{range_with_len}
use Rattle.rusty_paseto_primitives.specs.Aes.Circuit.{gathered_gates, gathered_outputs}
use Rattle.rusty_paseto_primitives.proofs.AesCircuits.{gates_on_planes}
use Rattle.rusty_paseto_primitives.proofs.aes.circuit.gathered.Goals as goal

pub returns : goal.returns
returns c f e = rw (e, c.ones-one.ensures) (gates_on_planes 8 gathered_gates gathered_outputs (map f (range_with_len 0 18) ++ (λ i j. true) ∷ []))

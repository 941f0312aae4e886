use Rattle.std.proofs.Common.{ℕ, Bool, ◌++◌, map, slice_index, ◌∙◌}
use Rattle.std.specs.List.{range_with_len}
use Rattle.rusty_paseto_primitives.specs.Aes.Circuit.{folded_gates, folded_outputs, inverted_gates, inverted_outputs, multiplied_gates, multiplied_outputs, spread_gates, spread_outputs}
use Rattle.rusty_paseto_primitives.specs.Aes.Planes.{bit, bits_of_gates}
use Rattle.rusty_paseto_primitives.proofs.AesCircuits.{s_box_planes-is}
use Rattle.rusty_paseto_primitives.proofs.aes.circuit.sub_bytes.Goals as goal

pub returns : goal.returns
returns c s bytes e =
    let x : ℕ → ℕ → ℕ → Bool = λ b i j. bit (slice_index (s j) i) b in
    let y : ℕ → ℕ → ℕ → Bool = bits_of_gates spread_gates spread_outputs (map x (range_with_len 0 8)) in
    let t : ℕ → ℕ → ℕ → Bool = bits_of_gates folded_gates folded_outputs (map y (range_with_len 0 22)) in
    let u : ℕ → ℕ → ℕ → Bool = bits_of_gates inverted_gates inverted_outputs (map t (range_with_len 0 4)) in
    let z : ℕ → ℕ → ℕ → Bool = bits_of_gates multiplied_gates multiplied_outputs (map y (range_with_len 0 22) ++ map u (range_with_len 0 9)) in
    let ey = c.spread-y.ensures x e in
    c.gathered.ensures z (c.multiplied.ensures y u ey (c.inverted.ensures t (c.folded.ensures y ey))) ∙ s_box_planes-is s bytes

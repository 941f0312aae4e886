use Rattle.std.proofs.Common.{ℕ, ◌+◌, ◌%◌, ◌^◌, List, slice_index, refl, sym, ◌∙◌}
use Rattle.std.specs.Int.{w128, to_be_bytes}
use Rattle.rusty_paseto_primitives.specs.Aes.Cipher.{cipher}
use Rattle.rusty_paseto_primitives.specs.Aes.Planes.{bit}
use Rattle.rusty_paseto_primitives.proofs.AesGroups.{IsBytes-cipher, IsBytes-counter, blocks_vectors, length-cipher}
use Rattle.rusty_paseto_primitives.proofs.aes.group.keystream.Goals as goal

pub returns : goal.returns
returns c w hw hk =
    let b : ℕ → List ℕ = λ j. to_be_bytes w128 ((c.args.start + j) % 2 ^ 128) in
    let bytes = λ (j : ℕ). IsBytes-counter ((c.args.start + j) % 2 ^ 128) in
    let packed = c.transposed.ensures (λ j i p. bit (slice_index (b j) i) p)
    (c.counters.ensures ∙ sym (blocks_vectors b (λ j. refl) bytes)) in
    let made = c.encrypted.ensures w b hw bytes hk packed in
    c.transposed-2.ensures (λ k i j. bit (slice_index (cipher w (b j)) i) k) made
    ∙ blocks_vectors (λ j. cipher w (b j)) (λ j. length-cipher w (b j)) (λ j. IsBytes-cipher w (b j) hw)

-- Four blocks of a keystream in vectors.
use Rattle.std.proofs.Common.{◌≡◌, ℕ, ◌+◌, ◌*◌, ◌/◌, ◌%◌, ◌<◌, List, [], length, slice_index, slice_index_or, refl, ap, ◌∙◌, arith}
use Rattle.std.proofs.lemmas.Simd.{get_or-chunk, length-chunk}
use Rattle.rusty_paseto_primitives.specs.Keystream.{stream_of_blocks}
use Rattle.rusty_paseto_primitives.specs.ChaCha.Lanes.{quarter, quarters}
use Rattle.rusty_paseto_primitives.proofs.Below.{below_sixteen}

quarters-at : (b : ℕ → List ℕ) (p : ℕ) → p < 16 → slice_index_or (quarters b) p [] ≡ quarter (b (p / 4)) (p % 4)
quarters-at b = below_sixteen _ refl refl refl refl refl refl refl refl refl refl refl refl refl refl refl refl

-- each vector has sixteen lanes
pub length-quarters : (b : ℕ → List ℕ) (v : List (List ℕ)) → v ≡ quarters b → ((j : ℕ) → length (b j) ≡ 64)
    → (p : ℕ) → p < 16 → length (slice_index_or v p []) ≡ 16
length-quarters b v e size p lt =
    rw (e, quarters-at b p lt) (length-chunk (16 * (p % 4)) 16 (b (p / 4)) (omega (arith, size (p / 4))))

-- the vectors of blocks that are the same
pub quarters-agree : (b c : ℕ → List ℕ) → ((j : ℕ) → b j ≡ c j) → quarters b ≡ quarters c
quarters-agree b c same = rw (same 0, same 1, same 2, same 3) refl

-- the stream of the vectors is the blocks' stream
pub quarters-stream : (block : ℕ → List ℕ) (v : List (List ℕ)) (g i : ℕ) → v ≡ quarters (λ j. block (4 * g + j)) → i < 256
    → stream_of_blocks 16 (λ p. slice_index_or v p []) i ≡ stream_of_blocks 64 block (256 * g + i)
quarters-stream block v g i e lt =
    let b : ℕ → List ℕ = λ j. block (4 * g + j) in
    let p : ℕ = i / 16 in
    let number : 4 * g + p / 4 ≡ (256 * g + i) / 64 = omega arith in
    let place : 16 * (p % 4) + i % 16 ≡ (256 * g + i) % 64 = omega arith in
    ap (λ (w : List (List ℕ)). slice_index (slice_index_or w p []) (i % 16)) e
    ∙ ap (λ (w : List ℕ). slice_index w (i % 16)) (quarters-at b p (omega arith))
    ∙ get_or-chunk (16 * (p % 4)) 16 (b (p / 4)) (i % 16) 0 (omega arith)
    ∙ ap (λ (n : ℕ). slice_index (block n) (16 * (p % 4) + i % 16)) number
    ∙ ap (slice_index (block ((256 * g + i) / 64))) place

-- the stream of the blocks after some groups of four
pub stream_after_groups : (block : ℕ → List ℕ) (g i : ℕ)
    → stream_of_blocks 64 (λ n. block (4 * g + n)) i ≡ stream_of_blocks 64 block (256 * g + i)
stream_after_groups block g i =
    let number : 4 * g + i / 64 ≡ (256 * g + i) / 64 = omega arith in
    let place : i % 64 ≡ (256 * g + i) % 64 = omega arith in
    ap (λ (n : ℕ). slice_index (block n) (i % 64)) number ∙ ap (slice_index (block ((256 * g + i) / 64))) place

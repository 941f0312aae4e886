-- The words of a block in vectors of two.
use Rattle.std.proofs.Common.{◌≡◌, ℕ, ◌+◌, ◌*◌, ◌/◌, ◌%◌, ◌^◌, ◌<◌, ◌≤◌, List, [], ◌∷◌, length, take, drop, slice_index, length-drop, inl, inr, refl, ap, ◌∙◌, arith}
use Rattle.std.proofs.lemmas.Bool.{cases_lt}
use Rattle.std.proofs.lemmas.List.{get_or-drop, get_or-take, get_or_past, length-take-le, take-take}
use Rattle.std.specs.Simd.Lanes.{chunk, digits_l, number_l}
use Rattle.rusty_paseto_primitives.specs.Blake2.Block.{word_at}

split_in_two : (low high : ℕ) → low < 2 ^ 64 → high < 2 ^ 64 → digits_l (2 ^ 64) 2 (low + 2 ^ 64 * high) ≡ low ∷ high ∷ []
split_in_two low high below above =
    let first : (low + 2 ^ 64 * high) % 2 ^ 64 ≡ low = omega arith in
    let second : (low + 2 ^ 64 * high) / 2 ^ 64 % 2 ^ 64 ≡ high = omega arith in
    rw (first, second) refl

-- the two words that sixteen bytes are
words_of_bytes : (b : List ℕ) → length b ≡ 16 → ((i : ℕ) → slice_index b i < 256)
    → digits_l (2 ^ 64) 2 (number_l 256 b) ≡ word_at b 0 ∷ word_at b 1 ∷ []
words_of_bytes (b0 ∷ b1 ∷ b2 ∷ b3 ∷ b4 ∷ b5 ∷ b6 ∷ b7 ∷ b8 ∷ b9 ∷ b10 ∷ b11 ∷ b12 ∷ b13 ∷ b14 ∷ b15 ∷ []) size fits =
    let low : ℕ = b0 + 256 * (b1 + 256 * (b2 + 256 * (b3 + 256 * (b4 + 256 * (b5 + 256 * (b6 + 256 * b7)))))) in
    let high : ℕ = b8 + 256 * (b9 + 256 * (b10 + 256 * (b11 + 256 * (b12 + 256 * (b13 + 256 * (b14 + 256 * b15)))))) in
    let below : low < 2 ^ 64 = omega (arith, fits 0, fits 1, fits 2, fits 3, fits 4, fits 5, fits 6, fits 7) in
    let above : high < 2 ^ 64 = omega (arith, fits 8, fits 9, fits 10, fits 11, fits 12, fits 13, fits 14, fits 15) in
    let number : number_l 256 (b0 ∷ b1 ∷ b2 ∷ b3 ∷ b4 ∷ b5 ∷ b6 ∷ b7 ∷ b8 ∷ b9 ∷ b10 ∷ b11 ∷ b12 ∷ b13 ∷ b14 ∷ b15 ∷ []) ≡ low + 2 ^ 64 * high = omega arith in
    let first : low ≡ word_at (b0 ∷ b1 ∷ b2 ∷ b3 ∷ b4 ∷ b5 ∷ b6 ∷ b7 ∷ b8 ∷ b9 ∷ b10 ∷ b11 ∷ b12 ∷ b13 ∷ b14 ∷ b15 ∷ []) 0 = omega arith in
    let second : high ≡ word_at (b0 ∷ b1 ∷ b2 ∷ b3 ∷ b4 ∷ b5 ∷ b6 ∷ b7 ∷ b8 ∷ b9 ∷ b10 ∷ b11 ∷ b12 ∷ b13 ∷ b14 ∷ b15 ∷ []) 1 = omega arith in
    ap (digits_l (2 ^ 64) 2) number ∙ split_in_two low high below above ∙ rw (first, second) refl
words_of_bytes b size fits = absurd (omega arith)

-- the words 2 k and 2 k + 1 of a block
pub pair_of_block : (block : List ℕ) (k w : ℕ) → w ≡ 16 → 16 * k + 16 ≤ length block → ((i : ℕ) → slice_index block i < 256)
    → digits_l (2 ^ 64) 2 (number_l 256 (chunk 0 16 (take w (drop (16 * k) block)))) ≡ word_at block (2 * k) ∷ word_at block (2 * k + 1) ∷ []
pair_of_block block k w width within fits =
    let b : List ℕ = take 16 (drop (16 * k) block) in
    let size : length b ≡ 16 = length-take-le 16 (drop (16 * k) block) (omega (arith, length-drop (16 * k) block)) in
    let at : (i j : ℕ) → i < 16 → 16 * k + i ≡ j → slice_index b i ≡ slice_index block j = λ i j lt place.
    get_or-take 16 (drop (16 * k) block) i 0 lt ∙ get_or-drop (16 * k) block i 0 ∙ ap (slice_index block) place in
    let own : (i : ℕ) → slice_index b i < 256 = λ i. elim (cases_lt i 16) [
      | inl lt ↦ rw (at i (16 * k + i) lt refl) (fits (16 * k + i))
      | inr past ↦ omega (arith, get_or_past b i 0 (omega arith))
    ] in
    let whole : chunk 0 16 (take w (drop (16 * k) block)) ≡ b = rw width (take-take 16 16 (drop (16 * k) block) (omega arith)) in
    let e0 : slice_index b 0 ≡ slice_index block (8 * (2 * k)) = at 0 (8 * (2 * k)) (omega arith) (omega arith) in
    let e1 : slice_index b 1 ≡ slice_index block (8 * (2 * k) + 1) = at 1 (8 * (2 * k) + 1) (omega arith) (omega arith) in
    let e2 : slice_index b 2 ≡ slice_index block (8 * (2 * k) + 2) = at 2 (8 * (2 * k) + 2) (omega arith) (omega arith) in
    let e3 : slice_index b 3 ≡ slice_index block (8 * (2 * k) + 3) = at 3 (8 * (2 * k) + 3) (omega arith) (omega arith) in
    let e4 : slice_index b 4 ≡ slice_index block (8 * (2 * k) + 4) = at 4 (8 * (2 * k) + 4) (omega arith) (omega arith) in
    let e5 : slice_index b 5 ≡ slice_index block (8 * (2 * k) + 5) = at 5 (8 * (2 * k) + 5) (omega arith) (omega arith) in
    let e6 : slice_index b 6 ≡ slice_index block (8 * (2 * k) + 6) = at 6 (8 * (2 * k) + 6) (omega arith) (omega arith) in
    let e7 : slice_index b 7 ≡ slice_index block (8 * (2 * k) + 7) = at 7 (8 * (2 * k) + 7) (omega arith) (omega arith) in
    let e8 : slice_index b 8 ≡ slice_index block (8 * (2 * k + 1)) = at 8 (8 * (2 * k + 1)) (omega arith) (omega arith) in
    let e9 : slice_index b 9 ≡ slice_index block (8 * (2 * k + 1) + 1) = at 9 (8 * (2 * k + 1) + 1) (omega arith) (omega arith) in
    let e10 : slice_index b 10 ≡ slice_index block (8 * (2 * k + 1) + 2) = at 10 (8 * (2 * k + 1) + 2) (omega arith) (omega arith) in
    let e11 : slice_index b 11 ≡ slice_index block (8 * (2 * k + 1) + 3) = at 11 (8 * (2 * k + 1) + 3) (omega arith) (omega arith) in
    let e12 : slice_index b 12 ≡ slice_index block (8 * (2 * k + 1) + 4) = at 12 (8 * (2 * k + 1) + 4) (omega arith) (omega arith) in
    let e13 : slice_index b 13 ≡ slice_index block (8 * (2 * k + 1) + 5) = at 13 (8 * (2 * k + 1) + 5) (omega arith) (omega arith) in
    let e14 : slice_index b 14 ≡ slice_index block (8 * (2 * k + 1) + 6) = at 14 (8 * (2 * k + 1) + 6) (omega arith) (omega arith) in
    let e15 : slice_index b 15 ≡ slice_index block (8 * (2 * k + 1) + 7) = at 15 (8 * (2 * k + 1) + 7) (omega arith) (omega arith) in
    ap (λ (x : List ℕ). digits_l (2 ^ 64) 2 (number_l 256 x)) whole
    ∙ words_of_bytes b size own
    ∙ rw (e0, e1, e2, e3, e4, e5, e6, e7, e8, e9, e10, e11, e12, e13, e14, e15) refl

-- Two hashes in lanes.
use Rattle.std.proofs.Common.{◌≡◌, ℕ, suc, ◌+◌, ◌*◌, ◌/◌, ◌%◌, ◌^◌, ◌<◌, IsTrue, List, [], ◌∷◌, ◌++◌, bit_or, slice_index, slice_index_or, refl, ap, ◌∙◌, arith}
use Rattle.std.proofs.lemmas.Nat.{or_comm, or_shifted}
use Rattle.std.specs.Int.{w64, rotate_right, to_le_bytes}
use Rattle.std.specs.Simd.Lanes.{digits_l, number_l, pick_l}
use Rattle.rusty_paseto_primitives.specs.Blake2.Block.{all_places, compress, folded, half_mix, mix}
use Rattle.rusty_paseto_primitives.specs.Blake2.Keyed.{final_hash}
use Rattle.rusty_paseto_primitives.specs.Blake2.Lanes.{half_mixed_lanes, hash_words, lanes, mixed_lanes, two}
use Rattle.rusty_paseto_primitives.proofs.Below.{below_sixteen}
use Rattle.rusty_paseto_primitives.proofs.Blake2Rows.{place_in_block}

-- the low half of a word above its high half
rotated_by_half : (x : ℕ) → x < 2 ^ 64 → rotate_right w64 x 32 ≡ x / 2 ^ 32 + 2 ^ 32 * (x % 2 ^ 32)
rotated_by_half x lt =
    let low : x * 2 ^ 32 % 2 ^ 64 ≡ x % 2 ^ 32 * 2 ^ 32 = omega arith in
    ap (bit_or (x / 2 ^ 32)) low ∙ or_comm (x / 2 ^ 32) (x % 2 ^ 32 * 2 ^ 32)
    ∙ or_shifted (x % 2 ^ 32) 32 (x / 2 ^ 32) (omega arith) ∙ omega arith

-- the bytes of a word, and then those of the number above it
bytes_first : (x y m : ℕ) → x < 2 ^ 64
    → digits_l 256 (suc (suc (suc (suc (suc (suc (suc (suc m)))))))) (x + 2 ^ 64 * y) ≡ to_le_bytes w64 x ++ digits_l 256 m y
bytes_first x y m lt =
    let n : ℕ = x + 2 ^ 64 * y in
    let e0 : n % 256 ≡ x % 256 = omega arith in
    let e1 : n / 256 % 256 ≡ x / 256 % 256 = omega arith in
    let e2 : n / 256 / 256 % 256 ≡ x / 65536 % 256 = omega arith in
    let e3 : n / 256 / 256 / 256 % 256 ≡ x / 16777216 % 256 = omega arith in
    let e4 : n / 256 / 256 / 256 / 256 % 256 ≡ x / 4294967296 % 256 = omega arith in
    let e5 : n / 256 / 256 / 256 / 256 / 256 % 256 ≡ x / 1099511627776 % 256 = omega arith in
    let e6 : n / 256 / 256 / 256 / 256 / 256 / 256 % 256 ≡ x / 281474976710656 % 256 = omega arith in
    let e7 : n / 256 / 256 / 256 / 256 / 256 / 256 / 256 % 256 ≡ x / 72057594037927936 % 256 = omega arith in
    let e8 : n / 256 / 256 / 256 / 256 / 256 / 256 / 256 / 256 ≡ y = omega arith in
    rw (e0, e1, e2, e3, e4, e5, e6, e7, e8) refl

-- the bytes of a word, those of its high half first
abbrev exchanged : ℕ → List ℕ
exchanged x = x / 2 ^ 32 % 256 ∷ x / 2 ^ 40 % 256 ∷ x / 2 ^ 48 % 256 ∷ x / 2 ^ 56 % 256
    ∷ x % 256 ∷ x / 2 ^ 8 % 256 ∷ x / 2 ^ 16 % 256 ∷ x / 2 ^ 24 % 256 ∷ []

-- the number that they are, below the number above them
number_of_exchanged : (x : ℕ) (bytes : List ℕ) → x < 2 ^ 64
    → number_l 256 (exchanged x ++ bytes) ≡ rotate_right w64 x 32 + 2 ^ 64 * number_l 256 bytes
number_of_exchanged x bytes lt =
    let high : x / 2 ^ 32 % 256 + 256 * (x / 2 ^ 40 % 256 + 256 * (x / 2 ^ 48 % 256 + 256 * (x / 2 ^ 56 % 256))) ≡ x / 2 ^ 32 = omega arith in
    let low : x % 256 + 256 * (x / 2 ^ 8 % 256 + 256 * (x / 2 ^ 16 % 256 + 256 * (x / 2 ^ 24 % 256))) ≡ x % 2 ^ 32 = omega arith in
    omega (arith, high, low, rotated_by_half x lt)

-- the bytes of two words, with the halves of each exchanged
pub halves_of_words : (x y : ℕ) → x < 2 ^ 64 → y < 2 ^ 64
    → digits_l (2 ^ 64) 2 (number_l 256 (pick_l 0 (digits_l 256 16 (number_l (2 ^ 64) (x ∷ y ∷ [])))
    (4 ∷ 5 ∷ 6 ∷ 7 ∷ 0 ∷ 1 ∷ 2 ∷ 3 ∷ 12 ∷ 13 ∷ 14 ∷ 15 ∷ 8 ∷ 9 ∷ 10 ∷ 11 ∷ [])))
    ≡ rotate_right w64 x 32 ∷ rotate_right w64 y 32 ∷ []
halves_of_words x y fx fy =
    let places : List ℕ = 4 ∷ 5 ∷ 6 ∷ 7 ∷ 0 ∷ 1 ∷ 2 ∷ 3 ∷ 12 ∷ 13 ∷ 14 ∷ 15 ∷ 8 ∷ 9 ∷ 10 ∷ 11 ∷ [] in
    let bytes = bytes_first x (number_l (2 ^ 64) (y ∷ [])) 8 fx ∙ ap (λ (back : List ℕ). to_le_bytes w64 x ++ back) (bytes_first y 0 0 fy) in
    let first : rotate_right w64 x 32 < 2 ^ 64 = omega (arith, rotated_by_half x fx) in
    let second : rotate_right w64 y 32 < 2 ^ 64 = omega (arith, rotated_by_half y fy) in
    let number = number_of_exchanged x (exchanged y) fx
    ∙ ap (λ (n : ℕ). rotate_right w64 x 32 + 2 ^ 64 * n) (number_of_exchanged y [] fy) in
    let n : ℕ = rotate_right w64 x 32 + 2 ^ 64 * (rotate_right w64 y 32 + 2 ^ 64 * 0) in
    let low : n % 2 ^ 64 ≡ rotate_right w64 x 32 = omega (arith, first) in
    let high : n / 2 ^ 64 % 2 ^ 64 ≡ rotate_right w64 y 32 = omega (arith, first, second) in
    ap (λ (b : List ℕ). digits_l (2 ^ 64) 2 (number_l 256 (pick_l 0 b places))) bytes
    ∙ ap (digits_l (2 ^ 64) 2) number ∙ rw (low, high) refl

words-at : (messages : ℕ → List ℕ) (k : ℕ) → k < 16 → slice_index_or (lanes messages) k [] ≡ two (λ j. slice_index (messages j) k)
words-at messages = below_sixteen _ refl refl refl refl refl refl refl refl refl refl refl refl refl refl refl refl

-- the words that entry i of a row names
pub words_named : (messages : ℕ → List ℕ) (m : List (List ℕ)) (row : List ℕ) (i : ℕ) → m ≡ lanes messages → IsTrue (all_places row)
    → slice_index_or m (slice_index row i) [] ≡ two (λ j. slice_index (messages j) (slice_index row i))
words_named messages m row i e places =
    ap (λ (x : List (List ℕ)). slice_index_or x (slice_index row i) []) e ∙ words-at messages (slice_index row i) (place_in_block row i places)

-- the second half of G after the first is the whole, in each lane
pub mixed_of_halves : (h g : List ℕ × List ℕ × List ℕ × List ℕ) (a b c d x y : ℕ → ℕ) → h ≡ half_mixed_lanes a b c d x 32 24
    → ((o p q t : ℕ → ℕ) → h.0 ≡ two o → h.1 ≡ two p → h.2 ≡ two q → h.3 ≡ two t → g ≡ half_mixed_lanes o p q t y 16 63)
    → g ≡ mixed_lanes a b c d x y
unfolding half_mix mix
mixed_of_halves h g a b c d x y first second =
    let half : ℕ → ℕ × ℕ × ℕ × ℕ = λ j. half_mix (a j) (b j) (c j) (d j) (x j) 32 24 in
    second (λ j. (half j).0) (λ j. (half j).1) (λ j. (half j).2) (λ j. (half j).3)
    (ap (λ (t : List ℕ × List ℕ × List ℕ × List ℕ). t.0) first) (ap (λ (t : List ℕ × List ℕ × List ℕ × List ℕ). t.1) first)
    (ap (λ (t : List ℕ × List ℕ × List ℕ × List ℕ). t.2) first) (ap (λ (t : List ℕ × List ℕ × List ℕ × List ℕ). t.3) first)

-- a hash value has eight words
pub hash_words-final_hash : (h input : List ℕ) → hash_words (final_hash h input) ≡ final_hash h input
unfolding folded compress final_hash
hash_words-final_hash h input = refl

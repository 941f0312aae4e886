-- The bytes of vectors of words.
use Rattle.std.proofs.Common.{◌≡◌, ℕ, suc, ◌+◌, ◌*◌, ◌/◌, ◌%◌, ◌^◌, ◌<◌, List, [], ◌∷◌, ◌++◌, length, refl, ap, ◌∙◌, arith}
use Rattle.std.specs.Int.{w32, to_le_bytes}
use Rattle.std.specs.Simd.Lanes.{Each1, digits_l, number_l}
use Rattle.rusty_paseto_primitives.specs.ChaCha.Block.{block_word, serialized}

-- the bytes of a word, and then those of the number above it
word_first : (x y m : ℕ) → x < 2 ^ 32 → digits_l 256 (suc (suc (suc (suc m)))) (x + 2 ^ 32 * y) ≡ to_le_bytes w32 x ++ digits_l 256 m y
word_first x y m lt =
    let e0 : (x + 2 ^ 32 * y) % 256 ≡ x % 256 = omega arith in
    let e1 : (x + 2 ^ 32 * y) / 256 % 256 ≡ x / 256 % 256 = omega arith in
    let e2 : (x + 2 ^ 32 * y) / 256 / 256 % 256 ≡ x / 65536 % 256 = omega arith in
    let e3 : (x + 2 ^ 32 * y) / 256 / 256 / 256 % 256 ≡ x / 16777216 % 256 = omega arith in
    let e4 : (x + 2 ^ 32 * y) / 256 / 256 / 256 / 256 ≡ y = omega arith in
    rw (e0, e1, e2, e3, e4) refl

-- the bytes of four words, one after another
pub bytes_of_lanes : (words : List ℕ) → length words ≡ 4 → Each1 (λ w. w < 2 ^ 32) words
    → digits_l 256 16 (number_l (2 ^ 32) words) ≡ serialized words
bytes_of_lanes (a ∷ b ∷ c ∷ d ∷ []) len fits =
    word_first a (number_l (2 ^ 32) (b ∷ c ∷ d ∷ [])) 12 fits.0
    ∙ ap (λ (r : List ℕ). to_le_bytes w32 a ++ r) (word_first b (number_l (2 ^ 32) (c ∷ d ∷ [])) 8 fits.1.0
    ∙ ap (λ (r : List ℕ). to_le_bytes w32 b ++ r) (word_first c (number_l (2 ^ 32) (d ∷ [])) 4 fits.1.1.0
    ∙ ap (λ (r : List ℕ). to_le_bytes w32 c ++ r) (word_first d (number_l (2 ^ 32) []) 0 fits.1.1.1.0)))
bytes_of_lanes [] len fits = absurd (omega arith)
bytes_of_lanes (a ∷ []) len fits = absurd (omega arith)
bytes_of_lanes (a ∷ b ∷ []) len fits = absurd (omega arith)
bytes_of_lanes (a ∷ b ∷ c ∷ []) len fits = absurd (omega arith)
bytes_of_lanes (a ∷ b ∷ c ∷ d ∷ e ∷ words) len fits = absurd (omega arith)

-- a vector of four words of a block, of which the bytes are known
pub bytes_of_words : (start words bytes : List ℕ) (a b c d : ℕ)
    → words ≡ block_word start a ∷ block_word start b ∷ block_word start c ∷ block_word start d ∷ []
    → (length words ≡ 4 → Each1 (λ w. w < 2 ^ 32) words → bytes ≡ serialized words)
    → bytes ≡ serialized (block_word start a ∷ block_word start b ∷ block_word start c ∷ block_word start d ∷ [])
unfolding block_word
bytes_of_words start words bytes a b c d e made =
    made (ap length e) (rw e (omega arith, (omega arith, (omega arith, (omega arith, tt))))) ∙ ap serialized e

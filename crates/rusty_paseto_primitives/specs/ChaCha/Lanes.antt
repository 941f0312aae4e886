-- Four blocks side by side: each word of their states is a vector, with one lane for each block.
use Rattle.std.specs.Prelude.{ℕ, ◌*◌, List, [], ◌∷◌, slice_index}
use Rattle.std.specs.Simd.Lanes.{chunk}
use Rattle.rusty_paseto_primitives.specs.ChaCha.Block.{add32, quarter_round, xor_rotate}

-- the vector with this value in each lane
abbrev pub four : (ℕ → ℕ) → List ℕ
four f = f 0 ∷ f 1 ∷ f 2 ∷ f 3 ∷ []

-- the vector of word k of four states
abbrev pub word_lanes : (ℕ → List ℕ) → ℕ → List ℕ
word_lanes s k = four (λ j. slice_index (s j) k)

-- the sixteen vectors of four states
abbrev pub lanes : (ℕ → List ℕ) → List (List ℕ)
lanes s =
    word_lanes s 0 ∷ word_lanes s 1 ∷ word_lanes s 2 ∷ word_lanes s 3
    ∷ word_lanes s 4 ∷ word_lanes s 5 ∷ word_lanes s 6 ∷ word_lanes s 7
    ∷ word_lanes s 8 ∷ word_lanes s 9 ∷ word_lanes s 10 ∷ word_lanes s 11
    ∷ word_lanes s 12 ∷ word_lanes s 13 ∷ word_lanes s 14 ∷ word_lanes s 15 ∷ []

-- one of the two halves of the quarter round, with the numbers of places that d and b are rotated by
unfoldable pub half_round : ℕ → ℕ → ℕ → ℕ → ℕ → ℕ → ℕ × ℕ × ℕ × ℕ
half_round a b c d r t =
    let a1 = add32 a b in
    let d1 = xor_rotate d a1 r in
    let c1 = add32 c d1 in
    let b1 = xor_rotate b c1 t in
    (a1, b1, c1, d1)

-- the same of the four words in each lane
abbrev pub half_mixed_lanes : (ℕ → ℕ) → (ℕ → ℕ) → (ℕ → ℕ) → (ℕ → ℕ) → ℕ → ℕ → List ℕ × List ℕ × List ℕ × List ℕ
half_mixed_lanes a b c d r t = (
  four (λ j. (half_round (a j) (b j) (c j) (d j) r t).0),
  four (λ j. (half_round (a j) (b j) (c j) (d j) r t).1),
  four (λ j. (half_round (a j) (b j) (c j) (d j) r t).2),
  four (λ j. (half_round (a j) (b j) (c j) (d j) r t).3),
)

-- the quarter round of the four words in each lane
abbrev pub mixed_lanes : (ℕ → ℕ) → (ℕ → ℕ) → (ℕ → ℕ) → (ℕ → ℕ) → List ℕ × List ℕ × List ℕ × List ℕ
mixed_lanes a b c d = (
  four (λ j. (quarter_round (a j) (b j) (c j) (d j)).0),
  four (λ j. (quarter_round (a j) (b j) (c j) (d j)).1),
  four (λ j. (quarter_round (a j) (b j) (c j) (d j)).2),
  four (λ j. (quarter_round (a j) (b j) (c j) (d j)).3),
)

-- the four words in each lane
abbrev pub rows : (ℕ → ℕ) → (ℕ → ℕ) → (ℕ → ℕ) → (ℕ → ℕ) → List ℕ × List ℕ × List ℕ × List ℕ
rows a b c d =
    let row : ℕ → List ℕ = λ j. a j ∷ b j ∷ c j ∷ d j ∷ [] in (row 0, row 1, row 2, row 3)

-- the sixteen bytes of a block of 64 from place 16 * i on
abbrev pub quarter : List ℕ → ℕ → List ℕ
quarter block i = chunk (16 * i) 16 block

-- four blocks of 64 bytes, one after another, in vectors of sixteen
abbrev pub quarters : (ℕ → List ℕ) → List (List ℕ)
quarters b =
    quarter (b 0) 0 ∷ quarter (b 0) 1 ∷ quarter (b 0) 2 ∷ quarter (b 0) 3
    ∷ quarter (b 1) 0 ∷ quarter (b 1) 1 ∷ quarter (b 1) 2 ∷ quarter (b 1) 3
    ∷ quarter (b 2) 0 ∷ quarter (b 2) 1 ∷ quarter (b 2) 2 ∷ quarter (b 2) 3
    ∷ quarter (b 3) 0 ∷ quarter (b 3) 1 ∷ quarter (b 3) 2 ∷ quarter (b 3) 3 ∷ []

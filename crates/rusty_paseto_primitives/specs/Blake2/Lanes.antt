-- Two hashes side by side: each word of their states is a vector, with one lane for each hash.
use Rattle.std.specs.Prelude.{ℕ, zero, suc, List, [], ◌∷◌, slice_index}
use Rattle.rusty_paseto_primitives.specs.Blake2.Block.{half_mix, mix}

-- the vector with this value in each lane
abbrev pub two : (ℕ → ℕ) → List ℕ
two f = f 0 ∷ f 1 ∷ []

-- the list of lane 0 and that of lane 1
abbrev pub both : List ℕ → List ℕ → ℕ → List ℕ
both first second zero = first
both first second (suc j) = second

-- the vector of word k of two lists
abbrev pub word_lanes : (ℕ → List ℕ) → ℕ → List ℕ
word_lanes s k = two (λ j. slice_index (s j) k)

-- the vectors of two hash values
abbrev pub hash_lanes : (ℕ → List ℕ) → List (List ℕ)
hash_lanes s =
    word_lanes s 0 ∷ word_lanes s 1 ∷ word_lanes s 2 ∷ word_lanes s 3
    ∷ word_lanes s 4 ∷ word_lanes s 5 ∷ word_lanes s 6 ∷ word_lanes s 7 ∷ []

-- the vectors of two work vectors, or of the words of two blocks
abbrev pub lanes : (ℕ → List ℕ) → List (List ℕ)
lanes s =
    word_lanes s 0 ∷ word_lanes s 1 ∷ word_lanes s 2 ∷ word_lanes s 3
    ∷ word_lanes s 4 ∷ word_lanes s 5 ∷ word_lanes s 6 ∷ word_lanes s 7
    ∷ word_lanes s 8 ∷ word_lanes s 9 ∷ word_lanes s 10 ∷ word_lanes s 11
    ∷ word_lanes s 12 ∷ word_lanes s 13 ∷ word_lanes s 14 ∷ word_lanes s 15 ∷ []

-- half of G on the words in each lane, with rotations by r and s
abbrev pub half_mixed_lanes : (ℕ → ℕ) → (ℕ → ℕ) → (ℕ → ℕ) → (ℕ → ℕ) → (ℕ → ℕ) → ℕ → ℕ → List ℕ × List ℕ × List ℕ × List ℕ
half_mixed_lanes a b c d x r s = (
  two (λ j. (half_mix (a j) (b j) (c j) (d j) (x j) r s).0),
  two (λ j. (half_mix (a j) (b j) (c j) (d j) (x j) r s).1),
  two (λ j. (half_mix (a j) (b j) (c j) (d j) (x j) r s).2),
  two (λ j. (half_mix (a j) (b j) (c j) (d j) (x j) r s).3),
)

-- G on the words in each lane
abbrev pub mixed_lanes : (ℕ → ℕ) → (ℕ → ℕ) → (ℕ → ℕ) → (ℕ → ℕ) → (ℕ → ℕ) → (ℕ → ℕ) → List ℕ × List ℕ × List ℕ × List ℕ
mixed_lanes a b c d x y = (
  two (λ j. (mix (a j) (b j) (c j) (d j) (x j) (y j)).0),
  two (λ j. (mix (a j) (b j) (c j) (d j) (x j) (y j)).1),
  two (λ j. (mix (a j) (b j) (c j) (d j) (x j) (y j)).2),
  two (λ j. (mix (a j) (b j) (c j) (d j) (x j) (y j)).3),
)

-- the eight words of a hash value
abbrev pub hash_words : List ℕ → List ℕ
hash_words h =
    slice_index h 0 ∷ slice_index h 1 ∷ slice_index h 2 ∷ slice_index h 3
    ∷ slice_index h 4 ∷ slice_index h 5 ∷ slice_index h 6 ∷ slice_index h 7 ∷ []

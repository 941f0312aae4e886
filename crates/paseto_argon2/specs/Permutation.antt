-- The permutation P (RFC 9106, section 3.6), on the sixteen words of eight registers. A word is a number below 2 ^ 64.
use Rattle.std.specs.Prelude.{ℕ, ◌+◌, ◌*◌, ◌%◌, ◌^◌, List, [], ◌∷◌, bit_xor, slice_index}
use Rattle.std.specs.Int.{w64, rotate_right}
use Rattle.rusty_paseto_primitives.specs.Blake2.Lanes.{two}

-- a + b + 2 * trunc(a) * trunc(b) modulo 2 ^ 64, where trunc keeps the lower half of a word
unfoldable pub added : ℕ → ℕ → ℕ
added a b = (a + b + 2 * ((a % 2 ^ 32) * (b % 2 ^ 32))) % 2 ^ 64

-- half of GB: d is rotated by r places, and b by s
unfoldable pub half_gb : ℕ → ℕ → ℕ → ℕ → ℕ → ℕ → ℕ × ℕ × ℕ × ℕ
half_gb a b c d r s =
    let a1 = added a b in
    let d1 = rotate_right w64 (bit_xor d a1) r in
    let c1 = added c d1 in
    let b1 = rotate_right w64 (bit_xor b c1) s in
    (a1, b1, c1, d1)

-- GB on four words
unfoldable pub gb : ℕ → ℕ → ℕ → ℕ → ℕ × ℕ × ℕ × ℕ
gb a b c d =
    let h = half_gb a b c d 32 24 in
    half_gb h.0 h.1 h.2 h.3 16 63

-- GB on four places of the words v
abbrev pub gb_at : List ℕ → ℕ → ℕ → ℕ → ℕ → ℕ × ℕ × ℕ × ℕ
gb_at v a b c d = gb (slice_index v a) (slice_index v b) (slice_index v c) (slice_index v d)

-- GB on each column of the words, read as four rows of four
unfoldable pub columns_mixed : List ℕ → List ℕ
columns_mixed v =
    let g0 = gb_at v 0 4 8 12 in
    let g1 = gb_at v 1 5 9 13 in
    let g2 = gb_at v 2 6 10 14 in
    let g3 = gb_at v 3 7 11 15 in
    g0.0 ∷ g1.0 ∷ g2.0 ∷ g3.0
    ∷ g0.1 ∷ g1.1 ∷ g2.1 ∷ g3.1
    ∷ g0.2 ∷ g1.2 ∷ g2.2 ∷ g3.2
    ∷ g0.3 ∷ g1.3 ∷ g2.3 ∷ g3.3 ∷ []

-- GB on each diagonal
unfoldable pub diagonals_mixed : List ℕ → List ℕ
diagonals_mixed v =
    let g0 = gb_at v 0 5 10 15 in
    let g1 = gb_at v 1 6 11 12 in
    let g2 = gb_at v 2 7 8 13 in
    let g3 = gb_at v 3 4 9 14 in
    g0.0 ∷ g1.0 ∷ g2.0 ∷ g3.0
    ∷ g3.1 ∷ g0.1 ∷ g1.1 ∷ g2.1
    ∷ g2.2 ∷ g3.2 ∷ g0.2 ∷ g1.2
    ∷ g1.3 ∷ g2.3 ∷ g3.3 ∷ g0.3 ∷ []

-- P
unfoldable pub permuted : List ℕ → List ℕ
permuted v = diagonals_mixed (columns_mixed v)

-- How the code holds words: a register is a vector of two words, the lower first.

-- register k of the words f
abbrev pub register : (ℕ → ℕ) → ℕ → List ℕ
register f k = f (2 * k) ∷ f (2 * k + 1) ∷ []

-- eight registers
abbrev pub row : (ℕ → ℕ) → List (List ℕ)
row f =
    register f 0 ∷ register f 1 ∷ register f 2 ∷ register f 3
    ∷ register f 4 ∷ register f 5 ∷ register f 6 ∷ register f 7 ∷ []

-- half of GB in each lane of vectors
abbrev pub half_gb_lanes : (ℕ → ℕ) → (ℕ → ℕ) → (ℕ → ℕ) → (ℕ → ℕ) → ℕ → ℕ → List ℕ × List ℕ × List ℕ × List ℕ
half_gb_lanes a b c d r s = (
  two (λ j. (half_gb (a j) (b j) (c j) (d j) r s).0),
  two (λ j. (half_gb (a j) (b j) (c j) (d j) r s).1),
  two (λ j. (half_gb (a j) (b j) (c j) (d j) r s).2),
  two (λ j. (half_gb (a j) (b j) (c j) (d j) r s).3),
)

-- GB in each lane of vectors
abbrev pub gb_lanes : (ℕ → ℕ) → (ℕ → ℕ) → (ℕ → ℕ) → (ℕ → ℕ) → List ℕ × List ℕ × List ℕ × List ℕ
gb_lanes a b c d = (
  two (λ j. (gb (a j) (b j) (c j) (d j)).0),
  two (λ j. (gb (a j) (b j) (c j) (d j)).1),
  two (λ j. (gb (a j) (b j) (c j) (d j)).2),
  two (λ j. (gb (a j) (b j) (c j) (d j)).3),
)

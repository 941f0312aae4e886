-- The work vector of one block in vectors of two words: it is a square of four rows, and each row is two vectors,
-- of its even and of its odd columns.
use Rattle.std.specs.Prelude.{ℕ, List, [], ◌∷◌, slice_index}

-- the vector of the words i and j
abbrev pub pair : List ℕ → ℕ → ℕ → List ℕ
pair s i j = slice_index s i ∷ slice_index s j ∷ []

-- the eight vectors of a work vector
abbrev pub columns : List ℕ → List (List ℕ)
columns v =
    pair v 0 2 ∷ pair v 1 3 ∷ pair v 4 6 ∷ pair v 5 7
    ∷ pair v 8 10 ∷ pair v 9 11 ∷ pair v 12 14 ∷ pair v 13 15 ∷ []

-- the words of a message, two in a vector
abbrev pub pairs : List ℕ → List (List ℕ)
pairs m =
    pair m 0 1 ∷ pair m 2 3 ∷ pair m 4 5 ∷ pair m 6 7
    ∷ pair m 8 9 ∷ pair m 10 11 ∷ pair m 12 13 ∷ pair m 14 15 ∷ []

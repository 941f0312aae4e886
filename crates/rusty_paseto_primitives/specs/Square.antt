-- A square of four rows of four words.
use Rattle.std.specs.Prelude.{ℕ, List, [], ◌∷◌, slice_index}

-- the sixteen words, row by row
abbrev pub state_words : List ℕ → List ℕ
state_words s =
    slice_index s 0 ∷ slice_index s 1 ∷ slice_index s 2 ∷ slice_index s 3
    ∷ slice_index s 4 ∷ slice_index s 5 ∷ slice_index s 6 ∷ slice_index s 7
    ∷ slice_index s 8 ∷ slice_index s 9 ∷ slice_index s 10 ∷ slice_index s 11
    ∷ slice_index s 12 ∷ slice_index s 13 ∷ slice_index s 14 ∷ slice_index s 15 ∷ []

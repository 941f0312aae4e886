-- The rows of a state, read as a square of sixteen words.
use Rattle.std.specs.Prelude.{ℕ, ◌+◌, ◌*◌, List, [], ◌∷◌, slice_index}
use Rattle.rusty_paseto_primitives.specs.ChaCha.Lanes.{four, mixed_lanes}

-- row i
abbrev pub row : List ℕ → ℕ → List ℕ
row s i = four (λ j. slice_index s (4 * i + j))

-- the four rows
abbrev pub state_rows : List ℕ → List (List ℕ)
state_rows s = row s 0 ∷ row s 1 ∷ row s 2 ∷ row s 3 ∷ []

-- the quarter round of the four words in each lane, as four rows
abbrev pub mixed_rows : (ℕ → ℕ) → (ℕ → ℕ) → (ℕ → ℕ) → (ℕ → ℕ) → List (List ℕ)
mixed_rows a b c d = let m = mixed_lanes a b c d in m.0 ∷ m.1 ∷ m.2 ∷ m.3 ∷ []

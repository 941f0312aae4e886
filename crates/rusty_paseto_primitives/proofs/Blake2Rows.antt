-- The rows of the message schedule, and of the work vector in vectors of two words.
use Rattle.std.proofs.Common.{◌≡◌, ℕ, zero, suc, ◌+◌, ◌*◌, ◌/◌, ◌<◌, IsTrue, List, [], ◌∷◌, slice_index, slice_index_or, refl, ap, ◌∙◌, arith}
use Rattle.std.proofs.lemmas.Bool.Decides.{nat_tests}
use Rattle.rusty_paseto_primitives.specs.Blake2.Block.{all_places, diagonal_step, round, rounds}
use Rattle.rusty_paseto_primitives.specs.Blake2.Rows.{pair, pairs}
use Rattle.rusty_paseto_primitives.specs.Square.{state_words}
use Rattle.rusty_paseto_primitives.proofs.Below.{below_eight}

-- an entry of a row is the place of a word in a block
pub place_in_block : (row : List ℕ) (k : ℕ) → IsTrue (all_places row) → slice_index row k < 16
place_in_block [] k h = omega arith
place_in_block (x ∷ row) zero h = grind (arith, nat_tests)
place_in_block (x ∷ row) (suc k) h = place_in_block row k (grind (arith, nat_tests))

-- the words x and y in the two lanes of a vector
abbrev pub one_of : ℕ → ℕ → ℕ → ℕ
one_of x y zero = x
one_of x y (suc j) = y

pairs-at : (words : List ℕ) (k : ℕ) → k < 8 → slice_index_or (pairs words) k [] ≡ pair words (2 * k) (2 * k + 1)
pairs-at words = below_eight _ refl refl refl refl refl refl refl refl

-- the vector that holds word i
pub pair_with : (words : List ℕ) (m : List (List ℕ)) (i : ℕ) → m ≡ pairs words → i < 16
    → slice_index_or m (i / 2) [] ≡ pair words (2 * (i / 2)) (2 * (i / 2) + 1)
pair_with words m i e lt = ap (λ (x : List (List ℕ)). slice_index_or x (i / 2) []) e ∙ pairs-at words (i / 2) (omega arith)

-- a work vector after rounds has sixteen words
pub state_words-rounds : (v m : List ℕ) (n : ℕ) → state_words (rounds v m (suc n)) ≡ rounds v m (suc n)
unfolding rounds round diagonal_step
state_words-rounds v m n = refl

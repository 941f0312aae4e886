-- Identities of expressions modulo a number, where equations hold.
use Rattle.std.specs.Prelude.{ℕ, zero, suc, ◌%◌, ◌≡◌, Bool, true, false, List, [], ◌∷◌, nat_eq, if◌then◌else◌}
use Rattle.paseto_primes.specs.Polynomial.{Expression, Polynomial, constant, product, sum, value}

unfoldable pub all_in : {A : Type 0} → (A → Bool) → List A → Bool
all_in f [] = true
all_in f (a ∷ p) = if f a then all_in f p else false

-- each coefficient is 0
unfoldable pub is_zero : (n : ℕ) → Polynomial n → Bool
is_zero zero c = nat_eq c 0
is_zero (suc n) p = all_in (is_zero n) p

unfoldable pub same_lists : {A : Type 0} → (A → A → Bool) → (A → Bool) → List A → List A → Bool
same_lists same zero_there [] q = all_in zero_there q
same_lists same zero_there (a ∷ p) [] = all_in zero_there (a ∷ p)
same_lists same zero_there (a ∷ p) (b ∷ q) = if same a b then same_lists same zero_there p q else false

-- two polynomials have the same coefficients, whatever zeros stand behind the others
unfoldable pub is_same : (n : ℕ) → Polynomial n → Polynomial n → Bool
is_same zero a b = nat_eq a b
is_same (suc n) p q = same_lists (is_same n) (is_zero n) p q

-- each coefficient is a multiple of m
unfoldable pub is_null : (n m : ℕ) → Polynomial n → Bool
is_null zero m c = nat_eq (c % m) 0
is_null (suc n) m p = all_in (is_null n m) p

-- an equation modulo m, and what it is multiplied by: one factor less another
pub record Equation : Type 0 where
  pub added : Expression
  pub taken : Expression
  pub left : Expression
  pub right : Expression

abbrev pub Hold : (n m : ℕ) → (ℕ → ℕ) → List Equation → Type 0
Hold n m numbers [] = Unit {0}
Hold n m numbers (e ∷ es) = (value n m numbers e.left % m ≡ value n m numbers e.right % m) × Hold n m numbers es

-- the sum of the equations' left sides, by what they are multiplied by; what is taken stands on the other side
unfoldable pub left_sides : List Equation → Expression
left_sides [] = constant 0
left_sides (e ∷ es) = sum (sum (product e.added e.left) (product e.taken e.right)) (left_sides es)

unfoldable pub right_sides : List Equation → Expression
right_sides [] = constant 0
right_sides (e ∷ es) = sum (sum (product e.taken e.left) (product e.added e.right)) (right_sides es)

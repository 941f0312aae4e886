-- Polynomials modulo a number, where the cubes of some variables are linear in them, as the equation of an elliptic
-- curve says it of the coordinate x.
use Rattle.std.specs.Prelude.{ℕ, zero, suc, ◌+◌, ◌*◌, ◌%◌, ◌≡◌, List, [], ◌∷◌, Option, None, Some}
use Rattle.paseto_primes.specs.Polynomial.{Expression, Polynomial, add, each, multiply, polynomial, value}

-- x ^ 3 = linear * x + rest, by expressions in the variables before x
pub record Cube : Type 0 where
  pub linear : Expression
  pub rest : Expression

-- a + x * q, for a q with three coefficients at most, where x ^ 3 is u * x + v
unfoldable pub push : {A : Type 0} → (A → A → A) → (A → A → A) → A → A → A → List A → List A
push add multiply u v a [] = a ∷ []
push add multiply u v a (c0 ∷ []) = a ∷ c0 ∷ []
push add multiply u v a (c0 ∷ c1 ∷ []) = a ∷ c0 ∷ c1 ∷ []
push add multiply u v a (c0 ∷ c1 ∷ c2 ∷ []) = add a (multiply c2 v) ∷ add c0 (multiply c2 u) ∷ c1 ∷ []
push add multiply u v a (c0 ∷ c1 ∷ c2 ∷ c3 ∷ q) = a ∷ c0 ∷ c1 ∷ c2 ∷ c3 ∷ q

-- by Horner's rule
unfoldable pub without_cubes : {A : Type 0} → (A → A → A) → (A → A → A) → A → A → List A → List A
without_cubes add multiply u v [] = []
without_cubes add multiply u v (a ∷ p) = push add multiply u v a (without_cubes add multiply u v p)

unfoldable pub by_rule : (n m : ℕ) → Option Cube → List (Polynomial n) → List (Polynomial n)
by_rule n m None p = p
by_rule n m (Some c) p = without_cubes (add n) (multiply n) (polynomial n m c.linear) (polynomial n m c.rest) p

-- a polynomial with coefficients below m and no cube of a variable that has a rule
unfoldable pub reduced : (ℕ → Option Cube) → (n m : ℕ) → Polynomial n → Polynomial n
reduced rules zero m c = c % m
reduced rules (suc n) m p = by_rule n m (rules n) (each (reduced rules n m) p)

abbrev pub Obeys : (n m : ℕ) → (ℕ → ℕ) → Option Cube → Type 0
Obeys n m numbers None = Unit {0}
Obeys n m numbers (Some c) =
    (numbers n * (numbers n * numbers n)) % m ≡ (value n m numbers c.linear * numbers n + value n m numbers c.rest) % m

-- the numbers obey the rules of the first n variables
abbrev pub Obey : (ℕ → Option Cube) → (n m : ℕ) → (ℕ → ℕ) → Type 0
Obey rules zero m numbers = Unit {0}
Obey rules (suc n) m numbers = Obeys n m numbers (rules n) × Obey rules n m numbers

-- Numbers modulo a number, and the values of expressions among them.
use Rattle.std.specs.Prelude.{ℕ, ◌+◌, ◌-◌, ◌*◌, ◌%◌, ◌<◌, ◌≡◌, List, [], ◌∷◌}
use Rattle.paseto_primes.specs.Identity.{Equation}
use Rattle.paseto_primes.specs.Polynomial.{Expression, constant, difference, product, read, sum, variable}

unfoldable pub plus : ℕ → ℕ → ℕ → ℕ
plus m x y = (x + y) % m

-- the difference of x and of a number that is less than m
unfoldable pub minus : ℕ → ℕ → ℕ → ℕ
minus m x y = (x + (m - y)) % m

unfoldable pub times : ℕ → ℕ → ℕ → ℕ
times m x y = (x * y) % m

-- the value of an expression at n numbers below m, by operations modulo m
unfoldable pub element : (n m : ℕ) → (ℕ → ℕ) → Expression → ℕ
element n m numbers (variable i) = read n numbers i
element n m numbers (constant c) = c % m
element n m numbers (sum a b) = plus m (element n m numbers a) (element n m numbers b)
element n m numbers (product a b) = times m (element n m numbers a) (element n m numbers b)
element n m numbers (difference a b) = minus m (element n m numbers a) (element n m numbers b)

-- equations hold by operations modulo m
abbrev pub HoldElements : (n m : ℕ) → (ℕ → ℕ) → List Equation → Type 0
HoldElements n m numbers [] = Unit {0}
HoldElements n m numbers (e ∷ es) =
    (element n m numbers e.left ≡ element n m numbers e.right) × HoldElements n m numbers es

abbrev pub AreBelow : ℕ → (ℕ → ℕ) → Type 0
AreBelow m numbers = (i : ℕ) → numbers i < m

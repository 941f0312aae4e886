-- Programs of expressions, each of which may read what the lines before it gave, as numbers and as polynomials.
use Rattle.std.specs.Prelude.{ℕ, zero, suc, ◌-◌, ◌%◌, ◌≡◌, List, [], ◌∷◌, Option}
use Rattle.paseto_primes.specs.Element.{minus, plus, times}
use Rattle.paseto_primes.specs.Polynomial.{Expression, Polynomial, add, at, constant, constant_polynomial, difference, multiply, no_polynomial, product, sum, variable}
use Rattle.paseto_primes.specs.Reduction.{Cube, reduced}

-- the numbers of a list, and 0 behind its end
unfoldable pub listed : List ℕ → ℕ → ℕ
listed [] i = 0
listed (x ∷ xs) zero = x
listed (x ∷ xs) (suc i) = listed xs i

unfoldable pub listed_polynomial : (n : ℕ) → List (Polynomial n) → ℕ → Polynomial n
listed_polynomial n [] i = no_polynomial n
listed_polynomial n (p ∷ ps) zero = p
listed_polynomial n (p ∷ ps) (suc i) = listed_polynomial n ps i

-- the value of an expression at listed numbers, by operations modulo m
unfoldable pub element_of : ℕ → List ℕ → Expression → ℕ
element_of m xs (variable i) = listed xs i
element_of m xs (constant c) = c % m
element_of m xs (sum a b) = plus m (element_of m xs a) (element_of m xs b)
element_of m xs (product a b) = times m (element_of m xs a) (element_of m xs b)
element_of m xs (difference a b) = minus m (element_of m xs a) (element_of m xs b)

-- the polynomial of an expression whose variables are listed polynomials
unfoldable pub polynomial_of : (n m : ℕ) → List (Polynomial n) → Expression → Polynomial n
polynomial_of n m ps (variable i) = listed_polynomial n ps i
polynomial_of n m ps (constant c) = constant_polynomial n c
polynomial_of n m ps (sum a b) = add n (polynomial_of n m ps a) (polynomial_of n m ps b)
polynomial_of n m ps (product a b) = multiply n (polynomial_of n m ps a) (polynomial_of n m ps b)
polynomial_of n m ps (difference a b) =
    add n (polynomial_of n m ps a) (multiply n (constant_polynomial n (m - 1)) (polynomial_of n m ps b))

unfoldable pub appended : {A : Type 0} → List A → A → List A
appended [] y = y ∷ []
appended (x ∷ xs) y = x ∷ appended xs y

-- each line is a further variable
unfoldable pub run_elements : ℕ → List ℕ → List Expression → List ℕ
run_elements m xs [] = xs
run_elements m xs (e ∷ es) = run_elements m (appended xs (element_of m xs e)) es

-- the same by polynomials, each of which is reduced once
unfoldable pub run_polynomials : (ℕ → Option Cube) → (n m : ℕ) → List (Polynomial n) → List Expression → List (Polynomial n)
run_polynomials rules n m ps [] = ps
run_polynomials rules n m ps (e ∷ es) =
    run_polynomials rules n m (appended ps (reduced rules n m (polynomial_of n m ps e))) es

-- the numbers are the values of the polynomials modulo m
abbrev pub Agree : (n m : ℕ) → (ℕ → ℕ) → List (Polynomial n) → List ℕ → Type 0
Agree n m numbers [] [] = Unit {0}
Agree n m numbers [] (x ∷ xs) = ⊥
Agree n m numbers (p ∷ ps) [] = ⊥
Agree n m numbers (p ∷ ps) (x ∷ xs) = (at n numbers p % m ≡ x) × Agree n m numbers ps xs

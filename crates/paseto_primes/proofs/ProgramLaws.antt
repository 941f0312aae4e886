-- The numbers that a program gives are the values of the polynomials that it gives.
use Rattle.std.proofs.Math.Nat.{add-mod}
use Rattle.std.proofs.lemmas.Nat.{mul-mod}
use Rattle.std.proofs.Common.{◌≡◌, ℕ, zero, suc, ◌+◌, ◌-◌, ◌*◌, ◌%◌, ◌<◌, List, [], ◌∷◌, true, sym, ◌∙◌, ap, ap₂, mod-eq_of_lt}
use Rattle.std.specs.Prelude.{Option}
use Rattle.paseto_primes.specs.Element.{AreBelow, minus, plus, times}
use Rattle.paseto_primes.specs.Identity.{is_null}
use Rattle.paseto_primes.specs.Polynomial.{Expression, Polynomial, at, constant, difference, product, read, sum, variable, variable_polynomial}
use Rattle.paseto_primes.specs.Program.{Agree, appended, element_of, listed, listed_polynomial, polynomial_of, run_elements, run_polynomials}
use Rattle.paseto_primes.specs.Reduction.{Cube, Obey, reduced}
use Rattle.paseto_primes.proofs.ElementLaws.{difference-value, read-below}
use Rattle.paseto_primes.proofs.IdentityLaws.{at-null, equal-of_null}
use Rattle.paseto_primes.proofs.PolynomialLaws.{at-add, at-constant, at-difference, at-multiply, at-none, at-variable}
use Rattle.paseto_primes.proofs.ReductionLaws.{at-reduced, reducing}

agree-listed : (n m : ℕ) (numbers : ℕ → ℕ) → 0 < m → (ps : List (Polynomial n)) (xs : List ℕ) → Agree n m numbers ps xs → (i : ℕ)
    → at n numbers (listed_polynomial n ps i) % m ≡ listed xs i
unfolding listed_polynomial listed
agree-listed n m numbers positive [] [] h i = ap (λ w. w % m) (at-none n numbers) ∙ mod-eq_of_lt positive
agree-listed n m numbers positive [] (x ∷ xs) h i = absurd h
agree-listed n m numbers positive (p ∷ ps) [] h i = absurd h
agree-listed n m numbers positive (p ∷ ps) (x ∷ xs) h zero = h.0
agree-listed n m numbers positive (p ∷ ps) (x ∷ xs) h (suc i) = agree-listed n m numbers positive ps xs h.1 i

agree-appended : (n m : ℕ) (numbers : ℕ → ℕ) (ps : List (Polynomial n)) (xs : List ℕ) → Agree n m numbers ps xs
    → (p : Polynomial n) (x : ℕ) → at n numbers p % m ≡ x → Agree n m numbers (appended ps p) (appended xs x)
unfolding appended
agree-appended n m numbers [] [] h p x e = (e, tt)
agree-appended n m numbers [] (y ∷ xs) h p x e = absurd h
agree-appended n m numbers (q ∷ ps) [] h p x e = absurd h
agree-appended n m numbers (q ∷ ps) (y ∷ xs) h p x e = (h.0, agree-appended n m numbers ps xs h.1 p x e)

pub at-polynomial_of : (n m : ℕ) (numbers : ℕ → ℕ) → 0 < m → (ps : List (Polynomial n)) (xs : List ℕ) → Agree n m numbers ps xs
    → (e : Expression) → at n numbers (polynomial_of n m ps e) % m ≡ element_of m xs e
unfolding polynomial_of element_of plus minus times
at-polynomial_of n m numbers positive ps xs h (variable i) = agree-listed n m numbers positive ps xs h i
at-polynomial_of n m numbers positive ps xs h (constant c) = ap (λ w. w % m) (at-constant n numbers c)
at-polynomial_of n m numbers positive ps xs h (sum a b) =
    ap (λ w. w % m) (at-add n numbers (polynomial_of n m ps a) (polynomial_of n m ps b)) ∙ add-mod _ _ m
    ∙ ap₂ (λ x y. (x + y) % m) (at-polynomial_of n m numbers positive ps xs h a) (at-polynomial_of n m numbers positive ps xs h b)
at-polynomial_of n m numbers positive ps xs h (product a b) =
    ap (λ w. w % m) (at-multiply n numbers (polynomial_of n m ps a) (polynomial_of n m ps b)) ∙ mul-mod _ _ m
    ∙ ap₂ (λ x y. (x * y) % m) (at-polynomial_of n m numbers positive ps xs h a) (at-polynomial_of n m numbers positive ps xs h b)
at-polynomial_of n m numbers positive ps xs h (difference a b) =
    ap (λ w. w % m) (at-difference n m numbers (polynomial_of n m ps a) (polynomial_of n m ps b))
    ∙ sym (difference-value m (at n numbers (polynomial_of n m ps a)) (at n numbers (polynomial_of n m ps b)) positive)
    ∙ ap₂ (λ x y. (x + (m - y)) % m) (at-polynomial_of n m numbers positive ps xs h a) (at-polynomial_of n m numbers positive ps xs h b)

pub agree-run : (rules : ℕ → Option Cube) (n m : ℕ) (numbers : ℕ → ℕ) → 0 < m → Obey rules n m numbers
    → (ps : List (Polynomial n)) (xs : List ℕ) → Agree n m numbers ps xs → (es : List Expression)
    → Agree n m numbers (run_polynomials rules n m ps es) (run_elements m xs es)
unfolding run_polynomials run_elements
agree-run rules n m numbers positive obey ps xs h [] = h
agree-run rules n m numbers positive obey ps xs h (e ∷ es) =
    let p : Polynomial n = polynomial_of n m ps e in
    agree-run rules n m numbers positive obey (appended ps (reduced rules n m p)) (appended xs (element_of m xs e))
    (agree-appended n m numbers ps xs h (reduced rules n m p) (element_of m xs e)
    (at-reduced rules n m numbers obey p ∙ at-polynomial_of n m numbers positive ps xs h e)) es

pub after-program : (rules : ℕ → Option Cube) (n m : ℕ) (numbers : ℕ → ℕ) → 0 < m → Obey rules n m numbers
    → (ps : List (Polynomial n)) (xs : List ℕ) → Agree n m numbers ps xs → (a b : Expression)
    → is_null n m (reduced rules n m (polynomial_of n m ps (difference a b))) ≡ true → element_of m xs a ≡ element_of m xs b
unfolding polynomial_of
after-program rules n m numbers positive obey ps xs h a b e =
    let p : Polynomial n = polynomial_of n m ps a in
    let q : Polynomial n = polynomial_of n m ps b in
    let zeros = sym (at-reduced rules n m numbers obey (polynomial_of n m ps (difference a b)))
    ∙ at-null n m numbers (reduced rules n m (polynomial_of n m ps (difference a b))) e in
    let null = sym (ap (λ w. w % m) (at-difference n m numbers p q)) ∙ zeros in
    sym (at-polynomial_of n m numbers positive ps xs h a) ∙ equal-of_null m (at n numbers p) (at n numbers q) positive null
    ∙ at-polynomial_of n m numbers positive ps xs h b

-- a variable is the number that it reads
pub at-start : (n m : ℕ) (numbers : ℕ → ℕ) → 0 < m → AreBelow m numbers → (i : ℕ)
    → at n numbers (variable_polynomial n i) % m ≡ read n numbers i
at-start n m numbers positive below i =
    ap (λ w. w % m) (at-variable n numbers i) ∙ mod-eq_of_lt (read-below n m numbers i positive below)

-- all that a program computes with
unfoldable pub programming : ℕ
unfolding reducing polynomial_of listed_polynomial element_of appended run_polynomials run_elements
programming = 0

-- The polynomial of an expression has its value.
use Rattle.std.proofs.Common.{◌≡◌, ℕ, zero, suc, ◌+◌, ◌-◌, ◌*◌, List, [], ◌∷◌, true, false, nat_eq, if◌then◌else◌, refl, ◌∙◌, ap₂, arith}
use Rattle.paseto_primes.specs.Polynomial.{Expression, Polynomial, add, at, at_list, constant, constant_polynomial, difference, each, multiply, no_polynomial, polynomial, product, product_lists, read, sum, sum_lists, value, variable, variable_polynomial}

at-sum_lists : {A : Type 0} (f : A → ℕ) (add : A → A → A) (x : ℕ) → ((a b : A) → f (add a b) ≡ f a + f b)
    → (p q : List A) → at_list f x (sum_lists add p q) ≡ at_list f x p + at_list f x q
unfolding at_list sum_lists
at-sum_lists f add x h [] q = omega arith
at-sum_lists f add x h (a ∷ p) [] = omega arith
at-sum_lists f add x h (a ∷ p) (b ∷ q) =
    let rest = at-sum_lists f add x h p q in
    let head = h a b in
    rw (rest, head) (omega arith)

at-each : {A : Type 0} (f : A → ℕ) (g : A → A) (x k : ℕ) → ((a : A) → f (g a) ≡ k * f a)
    → (p : List A) → at_list f x (each g p) ≡ k * at_list f x p
unfolding at_list each
at-each f g x k h [] = omega arith
at-each f g x k h (a ∷ p) = rw (at-each f g x k h p, h a) (omega arith)

at-product_lists : {A : Type 0} (f : A → ℕ) (add multiply : A → A → A) (none : A) (x : ℕ) → ((a b : A) → f (add a b) ≡ f a + f b)
    → ((a b : A) → f (multiply a b) ≡ f a * f b) → f none ≡ 0
    → (p q : List A) → at_list f x (product_lists add multiply none p q) ≡ at_list f x p * at_list f x q
unfolding at_list product_lists
at-product_lists f add multiply none x h k z [] q = omega arith
at-product_lists f add multiply none x h k z (a ∷ p) q =
    let rest = at-product_lists f add multiply none x h k z p q in
    let first = at-each f (multiply a) x (f a) (k a) q in
    let whole = at-sum_lists f add x h (each (multiply a) q) (none ∷ product_lists add multiply none p q) in
    rw (whole, first, rest, z) (omega arith)

pub at-none : (n : ℕ) (numbers : ℕ → ℕ) → at n numbers (no_polynomial n) ≡ 0
unfolding at at_list no_polynomial
at-none zero numbers = refl
at-none (suc n) numbers = refl

pub at-constant : (n : ℕ) (numbers : ℕ → ℕ) (c : ℕ) → at n numbers (constant_polynomial n c) ≡ c
unfolding at at_list constant_polynomial
at-constant zero numbers c = refl
at-constant (suc n) numbers c = rw (at-constant n numbers c) (omega arith)

pub at-add : (n : ℕ) (numbers : ℕ → ℕ) (p q : Polynomial n) → at n numbers (add n p q) ≡ at n numbers p + at n numbers q
unfolding at add
at-add zero numbers p q = refl
at-add (suc n) numbers p q = at-sum_lists (at n numbers) (add n) (numbers n) (at-add n numbers) p q

pub at-multiply : (n : ℕ) (numbers : ℕ → ℕ) (p q : Polynomial n) → at n numbers (multiply n p q) ≡ at n numbers p * at n numbers q
unfolding at multiply
at-multiply zero numbers p q = refl
at-multiply (suc n) numbers p q =
    at-product_lists (at n numbers) (add n) (multiply n) (no_polynomial n) (numbers n) (at-add n numbers) (at-multiply n numbers)
    (at-none n numbers) p q

pub at-variable : (n : ℕ) (numbers : ℕ → ℕ) (i : ℕ) → at n numbers (variable_polynomial n i) ≡ read n numbers i
unfolding at at_list variable_polynomial read
at-variable zero numbers i = refl
at-variable (suc n) numbers i = elim (nat_eq i n) as (λ b. at (suc n) numbers (if b then no_polynomial n ∷ constant_polynomial n 1 ∷ [] else variable_polynomial n i ∷ [])
    ≡ (if b then numbers n else read n numbers i)) [
      | true ↦ rw (at-none n numbers, at-constant n numbers 1) (omega arith)
      | false ↦ rw (at-variable n numbers i) (omega arith)
    ]

-- a difference, with m - 1 for -1
pub at-difference : (n m : ℕ) (numbers : ℕ → ℕ) (p q : Polynomial n)
    → at n numbers (add n p (multiply n (constant_polynomial n (m - 1)) q)) ≡ at n numbers p + (m - 1) * at n numbers q
at-difference n m numbers p q =
    at-add n numbers p (multiply n (constant_polynomial n (m - 1)) q)
    ∙ ap₂ (λ x y. x + y) refl
    (at-multiply n numbers (constant_polynomial n (m - 1)) q ∙ ap₂ (λ x y. x * y) (at-constant n numbers (m - 1)) refl)

pub at-polynomial : (n m : ℕ) (numbers : ℕ → ℕ) (e : Expression) → at n numbers (polynomial n m e) ≡ value n m numbers e
unfolding polynomial value
at-polynomial n m numbers (variable i) = at-variable n numbers i
at-polynomial n m numbers (constant c) = at-constant n numbers c
at-polynomial n m numbers (sum a b) =
    at-add n numbers (polynomial n m a) (polynomial n m b)
    ∙ ap₂ (λ x y. x + y) (at-polynomial n m numbers a) (at-polynomial n m numbers b)
at-polynomial n m numbers (product a b) =
    at-multiply n numbers (polynomial n m a) (polynomial n m b)
    ∙ ap₂ (λ x y. x * y) (at-polynomial n m numbers a) (at-polynomial n m numbers b)
at-polynomial n m numbers (difference a b) =
    at-difference n m numbers (polynomial n m a) (polynomial n m b)
    ∙ ap₂ (λ x y. x + (m - 1) * y) (at-polynomial n m numbers a) (at-polynomial n m numbers b)

-- Identities by the polynomials of both sides.
use Rattle.std.proofs.Math.Nat.{add-mod, zero-mod}
use Rattle.std.proofs.lemmas.Nat.{mul-mod_second}
use Rattle.std.proofs.Common.{eqb-true, ◌≡◌, ℕ, zero, suc, ◌+◌, ◌-◌, ◌*◌, ◌/◌, ◌%◌, ◌<◌, List, [], ◌∷◌, Bool, true, false, true≢false, if◌then◌else◌, refl, sym, ◌∙◌, ap, ap₂, arith, div-add-mod'}
use Rattle.paseto_primes.specs.Identity.{Equation, Hold, all_in, is_null, is_same, is_zero, left_sides, right_sides, same_lists}
use Rattle.paseto_primes.specs.Polynomial.{Expression, Polynomial, add, at, at_list, constant, constant_polynomial, difference, each, multiply, no_polynomial, polynomial, product, product_lists, read, sum, sum_lists, value, variable, variable_polynomial}
use Rattle.paseto_primes.specs.Program.{listed}
use Rattle.paseto_primes.proofs.PolynomialLaws.{at-polynomial}
use Rattle.paseto_primes.proofs.CongruenceLaws.{cancel-plus, equal-by, same-plus, same-times}

pub if-both : (a b : Bool) → (if a then b else false) ≡ true → (a ≡ true) × (b ≡ true)
if-both true b h = (refl, h)
if-both false b h = absurd (true≢false (sym h))

-- ---- the same coefficients

at-zeros : {A : Type 0} (f : A → ℕ) (g : A → Bool) (x : ℕ) → ((a : A) → g a ≡ true → f a ≡ 0)
    → (p : List A) → all_in g p ≡ true → at_list f x p ≡ 0
unfolding at_list all_in
at-zeros f g x h [] e = refl
at-zeros f g x h (a ∷ p) e =
    let both = if-both (g a) (all_in g p) e in
    rw (h a both.0, at-zeros f g x h p both.1) (omega arith)

at-zero : (n : ℕ) (numbers : ℕ → ℕ) (p : Polynomial n) → is_zero n p ≡ true → at n numbers p ≡ 0
unfolding at is_zero
at-zero zero numbers c e = eqb-true c 0 e
at-zero (suc n) numbers p e = at-zeros (at n numbers) (is_zero n) (numbers n) (at-zero n numbers) p e

at-same_lists : {A : Type 0} (f : A → ℕ) (same : A → A → Bool) (g : A → Bool) (x : ℕ) → ((a b : A) → same a b ≡ true → f a ≡ f b)
    → ((a : A) → g a ≡ true → f a ≡ 0) → (p q : List A) → same_lists same g p q ≡ true → at_list f x p ≡ at_list f x q
unfolding at_list same_lists
at-same_lists f same g x h z [] q e = sym (at-zeros f g x z q e)
at-same_lists f same g x h z (a ∷ p) [] e = at-zeros f g x z (a ∷ p) e
at-same_lists f same g x h z (a ∷ p) (b ∷ q) e =
    let both = if-both (same a b) (same_lists same g p q) e in
    ap₂ (λ k l. k + x * l) (h a b both.0) (at-same_lists f same g x h z p q both.1)

at-same : (n : ℕ) (numbers : ℕ → ℕ) (p q : Polynomial n) → is_same n p q ≡ true → at n numbers p ≡ at n numbers q
unfolding at is_same
at-same zero numbers a b e = eqb-true a b e
at-same (suc n) numbers p q e =
    at-same_lists (at n numbers) (is_same n) (is_zero n) (numbers n) (at-same n numbers) (at-zero n numbers) p q e

pub by-form : (n m : ℕ) (numbers : ℕ → ℕ) (a b : Expression) → is_same n (polynomial n m a) (polynomial n m b) ≡ true
    → value n m numbers a ≡ value n m numbers b
by-form n m numbers a b e =
    sym (at-polynomial n m numbers a) ∙ at-same n numbers (polynomial n m a) (polynomial n m b) e ∙ at-polynomial n m numbers b

-- ---- coefficients that m divides

null-sum : (m a b : ℕ) → a % m ≡ 0 → b % m ≡ 0 → (a + b) % m ≡ 0
null-sum m a b e f = add-mod a b m ∙ rw (e, f) (zero-mod m)

null-product : (m a b : ℕ) → b % m ≡ 0 → (a * b) % m ≡ 0
null-product m a b e = sym (mul-mod_second a b m) ∙ rw (e) (ap (λ c. c % m) (omega arith) ∙ zero-mod m)

at-all : {A : Type 0} (f : A → ℕ) (g : A → Bool) (x m : ℕ) → ((a : A) → g a ≡ true → f a % m ≡ 0)
    → (p : List A) → all_in g p ≡ true → at_list f x p % m ≡ 0
unfolding at_list all_in
at-all f g x m h [] e = zero-mod m
at-all f g x m h (a ∷ p) e =
    let both = if-both (g a) (all_in g p) e in
    null-sum m (f a) (x * at_list f x p) (h a both.0) (null-product m x (at_list f x p) (at-all f g x m h p both.1))

pub at-null : (n m : ℕ) (numbers : ℕ → ℕ) (p : Polynomial n) → is_null n m p ≡ true → at n numbers p % m ≡ 0
unfolding at is_null
at-null zero m numbers c e = eqb-true (c % m) 0 e
at-null (suc n) m numbers p e = at-all (at n numbers) (is_null n m) (numbers n) m (at-null n m numbers) p e

-- what m divides is no difference
pub equal-of_null : (m a b : ℕ) → 0 < m → (a + (m - 1) * b) % m ≡ 0 → a % m ≡ b % m
equal-of_null m a b positive e =
    let k : ℕ = m - 1 in
    let n : ℕ = a + k * b in
    let whole : n / m * m + n % m ≡ n = div-add-mod' n m in
    let m_is : m ≡ k + 1 = omega arith in
    equal-by m a b b (n / m) (parts m k a b (n / m) m_is (omega arith))
  where
    parts : (m k a b i : ℕ) → m ≡ k + 1 → i * m ≡ a + k * b → a + b * m ≡ b + i * m
    parts m k a b i m_is i_is = let by_b : b * m ≡ b * (k + 1) = ap (λ w. b * w) m_is in omega arith

pub by-null : (n m : ℕ) (numbers : ℕ → ℕ) → 0 < m → (a b : Expression) → is_null n m (polynomial n m (difference a b)) ≡ true
    → value n m numbers a % m ≡ value n m numbers b % m
unfolding value
by-null n m numbers positive a b e =
    equal-of_null m (value n m numbers a) (value n m numbers b) positive
    (sym (ap (λ x. x % m) (at-polynomial n m numbers (difference a b))) ∙ at-null n m numbers (polynomial n m (difference a b)) e)

-- ---- equations

pub sides : (n m : ℕ) (numbers : ℕ → ℕ) (es : List Equation) → Hold n m numbers es
    → value n m numbers (right_sides es) % m ≡ value n m numbers (left_sides es) % m
unfolding value left_sides right_sides
sides n m numbers [] h = refl
sides n m numbers (e ∷ es) h =
    let a : ℕ = value n m numbers e.added in
    let t : ℕ = value n m numbers e.taken in
    let l : ℕ = value n m numbers e.left in
    let r : ℕ = value n m numbers e.right in
    let turned : t * r + a * l ≡ a * l + t * r = omega arith in
    same-plus m (t * l + a * r) (a * l + t * r) (value n m numbers (right_sides es)) (value n m numbers (left_sides es))
    (same-plus m (t * l) (t * r) (a * r) (a * l) (same-times m t t l r refl h.0) (same-times m a a r l refl (sym h.0)) ∙ ap (λ w. w % m) turned)
    (sides n m numbers es h.1)

pub without-sides : (m a b r l : ℕ) → r % m ≡ l % m → (a + r) % m ≡ (b + l) % m → a % m ≡ b % m
without-sides m a b r l same e =
    let first : r + a ≡ a + r = omega arith in
    let second : b + r ≡ r + b = omega arith in
    cancel-plus m r a b (ap (λ w. w % m) first ∙ e ∙ sym (same-plus m b b r l refl same) ∙ ap (λ w. w % m) second)

pub by-equations : (n m : ℕ) (numbers : ℕ → ℕ) (es : List Equation) → Hold n m numbers es → (a b : Expression)
    → is_same n (polynomial n m (sum a (right_sides es))) (polynomial n m (sum b (left_sides es))) ≡ true
    → value n m numbers a % m ≡ value n m numbers b % m
unfolding value
by-equations n m numbers es h a b e =
    without-sides m (value n m numbers a) (value n m numbers b) (value n m numbers (right_sides es)) (value n m numbers (left_sides es))
    (sides n m numbers es h) (ap (λ w. w % m) (by-form n m numbers (sum a (right_sides es)) (sum b (left_sides es)) e))

pub by-equations_modulo : (n m : ℕ) (numbers : ℕ → ℕ) → 0 < m → (es : List Equation) → Hold n m numbers es → (a b : Expression)
    → is_null n m (polynomial n m (difference (sum a (right_sides es)) (sum b (left_sides es)))) ≡ true
    → value n m numbers a % m ≡ value n m numbers b % m
unfolding value
by-equations_modulo n m numbers positive es h a b e =
    without-sides m (value n m numbers a) (value n m numbers b) (value n m numbers (right_sides es)) (value n m numbers (left_sides es))
    (sides n m numbers es h) (by-null n m numbers positive (sum a (right_sides es)) (sum b (left_sides es)) e)

-- ---- how an identity is written

-- a number times variables
unfoldable pub term : ℕ → List ℕ → Expression
term c [] = constant c
term c (i ∷ is) = product (variable i) (term c is)

unfoldable pub total : List Expression → Expression
total [] = constant 0
total (e ∷ es) = sum e (total es)

-- all that an identity computes with
unfoldable pub computing : ℕ
unfolding is_null is_same is_zero same_lists all_in left_sides right_sides polynomial add multiply no_polynomial constant_polynomial variable_polynomial sum_lists product_lists each listed term total value read
computing = 0

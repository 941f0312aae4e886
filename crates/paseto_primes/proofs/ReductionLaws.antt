-- A reduced polynomial has the same value modulo m.
use Rattle.std.proofs.Math.Nat.{mod-mod}
use Rattle.std.proofs.Common.{◌≡◌, ℕ, zero, suc, ◌+◌, ◌*◌, ◌%◌, ◌<◌, List, [], ◌∷◌, true, refl, sym, ◌∙◌, ap, ap₂, arith}
use Rattle.std.specs.Prelude.{Option, None, Some}
use Rattle.paseto_primes.proofs.CongruenceLaws.{same-plus, same-times}
use Rattle.paseto_primes.specs.Element.{AreBelow, HoldElements, element}
use Rattle.paseto_primes.specs.Identity.{Equation, Hold, is_null, left_sides, right_sides}
use Rattle.paseto_primes.specs.Polynomial.{Expression, Polynomial, add, at, at_list, difference, each, multiply, polynomial, sum, value}
use Rattle.paseto_primes.specs.Reduction.{Cube, Obey, Obeys, by_rule, push, reduced, without_cubes}
use Rattle.paseto_primes.proofs.ElementLaws.{element-value}
use Rattle.paseto_primes.proofs.IdentityLaws.{at-null, computing, equal-of_null, sides, without-sides}
use Rattle.paseto_primes.proofs.PolynomialLaws.{at-add, at-multiply, at-polynomial}

-- a multiple of equal numbers
exchanged : (m k c a b : ℕ) → a % m ≡ b % m → (k + c * a) % m ≡ (k + c * b) % m
exchanged m k c a b e = same-plus m k k (c * a) (c * b) refl (same-times m c c a b refl e)

at-push : {A : Type 0} (f : A → ℕ) (add multiply : A → A → A) (u v : A) (x m : ℕ) → ((a b : A) → f (add a b) ≡ f a + f b)
    → ((a b : A) → f (multiply a b) ≡ f a * f b) → (x * (x * x)) % m ≡ (f u * x + f v) % m
    → (a : A) (q : List A) → at_list f x (push add multiply u v a q) % m ≡ (f a + x * at_list f x q) % m
unfolding at_list push
at-push f add multiply u v x m ha hm e a [] = refl
at-push f add multiply u v x m ha hm e a (c0 ∷ []) = refl
at-push f add multiply u v x m ha hm e a (c0 ∷ c1 ∷ []) = refl
at-push f add multiply u v x m ha hm e a (c0 ∷ c1 ∷ c2 ∷ []) =
    let k : ℕ = f a + x * f c0 + x * x * f c1 in
    let first : f (add a (multiply c2 v)) + x * (f (add c0 (multiply c2 u)) + x * (f c1 + x * 0)) ≡ k + f c2 * (f u * x + f v) =
    rw (ha a (multiply c2 v), ha c0 (multiply c2 u), hm c2 v, hm c2 u) (omega arith) in
    let second : k + f c2 * (x * (x * x)) ≡ f a + x * (f c0 + x * (f c1 + x * (f c2 + x * 0))) = omega arith in
    ap (λ w. w % m) first ∙ sym (exchanged m k (f c2) (x * (x * x)) (f u * x + f v) e) ∙ ap (λ w. w % m) second
at-push f add multiply u v x m ha hm e a (c0 ∷ c1 ∷ c2 ∷ c3 ∷ q) = refl

at-without_cubes : {A : Type 0} (f : A → ℕ) (add multiply : A → A → A) (u v : A) (x m : ℕ) → ((a b : A) → f (add a b) ≡ f a + f b)
    → ((a b : A) → f (multiply a b) ≡ f a * f b) → (x * (x * x)) % m ≡ (f u * x + f v) % m
    → (p : List A) → at_list f x (without_cubes add multiply u v p) % m ≡ at_list f x p % m
unfolding at_list without_cubes
at-without_cubes f add multiply u v x m ha hm e [] = refl
at-without_cubes f add multiply u v x m ha hm e (a ∷ p) =
    at-push f add multiply u v x m ha hm e a (without_cubes add multiply u v p)
    ∙ exchanged m (f a) x (at_list f x (without_cubes add multiply u v p)) (at_list f x p) (at-without_cubes f add multiply u v x m ha hm e p)

at-rule : (n m : ℕ) (numbers : ℕ → ℕ) (rule : Option Cube) → Obeys n m numbers rule → (p : List (Polynomial n))
    → at_list (at n numbers) (numbers n) (by_rule n m rule p) % m ≡ at_list (at n numbers) (numbers n) p % m
unfolding by_rule
at-rule n m numbers None h p = refl
at-rule n m numbers (Some c) h p =
    at-without_cubes (at n numbers) (add n) (multiply n) (polynomial n m c.linear) (polynomial n m c.rest) (numbers n) m
    (at-add n numbers) (at-multiply n numbers)
    (h ∙ ap₂ (λ s t. (s * numbers n + t) % m) (sym (at-polynomial n m numbers c.linear)) (sym (at-polynomial n m numbers c.rest))) p

at-each_modulo : {A : Type 0} (f : A → ℕ) (g : A → A) (x m : ℕ) → ((a : A) → f (g a) % m ≡ f a % m)
    → (p : List A) → at_list f x (each g p) % m ≡ at_list f x p % m
unfolding at_list each
at-each_modulo f g x m h [] = refl
at-each_modulo f g x m h (a ∷ p) =
    same-plus m (f (g a)) (f a) (x * at_list f x (each g p)) (x * at_list f x p) (h a)
    (same-times m x x (at_list f x (each g p)) (at_list f x p) refl (at-each_modulo f g x m h p))

pub at-reduced : (rules : ℕ → Option Cube) (n m : ℕ) (numbers : ℕ → ℕ) → Obey rules n m numbers → (p : Polynomial n)
    → at n numbers (reduced rules n m p) % m ≡ at n numbers p % m
unfolding at reduced
at-reduced rules zero m numbers h c = mod-mod c m
at-reduced rules (suc n) m numbers h p =
    at-rule n m numbers (rules n) h.0 (each (reduced rules n m) p)
    ∙ at-each_modulo (at n numbers) (reduced rules n m) (numbers n) m (at-reduced rules n m numbers h.1) p

pub by-rules : (rules : ℕ → Option Cube) (n m : ℕ) (numbers : ℕ → ℕ) → 0 < m → Obey rules n m numbers
    → (es : List Equation) → Hold n m numbers es → (a b : Expression)
    → is_null n m (reduced rules n m (polynomial n m (difference (sum a (right_sides es)) (sum b (left_sides es))))) ≡ true
    → value n m numbers a % m ≡ value n m numbers b % m
unfolding value
by-rules rules n m numbers positive obey es h a b e =
    let p : Polynomial n = polynomial n m (difference (sum a (right_sides es)) (sum b (left_sides es))) in
    let null : at n numbers p % m ≡ 0 = sym (at-reduced rules n m numbers obey p) ∙ at-null n m numbers (reduced rules n m p) e in
    without-sides m (value n m numbers a) (value n m numbers b) (value n m numbers (right_sides es)) (value n m numbers (left_sides es))
    (sides n m numbers es h)
    (equal-of_null m (value n m numbers a + value n m numbers (right_sides es)) (value n m numbers b + value n m numbers (left_sides es)) positive
    (sym (ap (λ x. x % m) (at-polynomial n m numbers (difference (sum a (right_sides es)) (sum b (left_sides es))))) ∙ null))

-- ---- by operations modulo m

pub elements-hold : (n m : ℕ) (numbers : ℕ → ℕ) → 0 < m → AreBelow m numbers → (es : List Equation)
    → HoldElements n m numbers es → Hold n m numbers es
elements-hold n m numbers positive below [] h = tt
elements-hold n m numbers positive below (e ∷ es) h = (
  sym (element-value n m numbers positive below e.left) ∙ h.0 ∙ element-value n m numbers positive below e.right,
  elements-hold n m numbers positive below es h.1,
)

pub elements-by_rules : (rules : ℕ → Option Cube) (n m : ℕ) (numbers : ℕ → ℕ) → 0 < m → AreBelow m numbers
    → Obey rules n m numbers → (es : List Equation) → HoldElements n m numbers es → (a b : Expression)
    → is_null n m (reduced rules n m (polynomial n m (difference (sum a (right_sides es)) (sum b (left_sides es))))) ≡ true
    → element n m numbers a ≡ element n m numbers b
elements-by_rules rules n m numbers positive below obey es h a b e =
    element-value n m numbers positive below a
    ∙ by-rules rules n m numbers positive obey es (elements-hold n m numbers positive below es h) a b e
    ∙ sym (element-value n m numbers positive below b)

-- all that an identity by rules computes with
unfoldable pub reducing : ℕ
unfolding computing element reduced by_rule without_cubes push
reducing = 0

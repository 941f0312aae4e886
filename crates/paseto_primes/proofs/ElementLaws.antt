-- Operations modulo a number.
use Rattle.std.proofs.Common.{◌≡◌, ℕ, zero, suc, ◌+◌, ◌-◌, ◌*◌, ◌/◌, ◌%◌, ◌<◌, List, [], ◌∷◌, true, false, nat_eq, if◌then◌else◌, refl, sym, ◌∙◌, ap₂, arith, div-add-mod', mod-lt, mod-eq_of_lt}
use Rattle.std.proofs.Math.Nat.{add-mod}
use Rattle.std.proofs.lemmas.Nat.{mul-mod}
use Rattle.paseto_primes.specs.Element.{AreBelow, element, minus, plus, times}
use Rattle.paseto_primes.specs.Polynomial.{Expression, constant, difference, product, read, sum, value, variable}
use Rattle.paseto_primes.specs.Program.{listed}
use Rattle.paseto_primes.proofs.CongruenceLaws.{equal-by}

pub read-below : (n m : ℕ) (numbers : ℕ → ℕ) (i : ℕ) → 0 < m → AreBelow m numbers → read n numbers i < m
unfolding read
read-below zero m numbers i positive below = positive
read-below (suc n) m numbers i positive below = elim (nat_eq i n) as (λ b. (if b then numbers n else read n numbers i) < m) [
  | true ↦ below n
  | false ↦ read-below n m numbers i positive below
]

-- a - b, as a + (m - 1) * b
pub difference-value : (m a b : ℕ) → 0 < m → (a % m + (m - b % m)) % m ≡ (a + (m - 1) * b) % m
difference-value m a b positive =
    let k : ℕ = m - 1 in
    let m_is : m ≡ k + 1 = omega arith in
    let whole_a : a / m * m + a % m ≡ a = div-add-mod' a m in
    let whole_b : b / m * m + b % m ≡ b = div-add-mod' b m in
    let low : b % m < m = mod-lt b positive in
    equal-by m (a % m + (m - b % m)) (a + k * b) (a / m + k * (b / m) + b % m) 1
    (parts m k a b (a / m) (a % m) (b / m) (b % m) m_is whole_a whole_b low)
  where
    parts : (m k a b i r j s : ℕ) → m ≡ k + 1 → i * m + r ≡ a → j * m + s ≡ b → s < m
        → r + (m - s) + (i + k * j + s) * m ≡ a + k * b + 1 * m
    parts m k a b i r j s m_is a_is b_is low =
        let back : s + (m - s) ≡ m = omega arith in
        let by_s : s * m ≡ s * (k + 1) = ap₂ (λ x y. x * y) refl m_is in
        let by_k : k * (j * m + s) ≡ k * b = ap₂ (λ x y. x * y) refl b_is in
        omega arith

pub element-value : (n m : ℕ) (numbers : ℕ → ℕ) → 0 < m → AreBelow m numbers → (e : Expression)
    → element n m numbers e ≡ value n m numbers e % m
unfolding element value plus minus times
element-value n m numbers positive below (variable i) = sym (mod-eq_of_lt (read-below n m numbers i positive below))
element-value n m numbers positive below (constant c) = refl
element-value n m numbers positive below (sum a b) =
    ap₂ (λ x y. (x + y) % m) (element-value n m numbers positive below a) (element-value n m numbers positive below b)
    ∙ sym (add-mod _ _ m)
element-value n m numbers positive below (product a b) =
    ap₂ (λ x y. (x * y) % m) (element-value n m numbers positive below a) (element-value n m numbers positive below b)
    ∙ sym (mul-mod _ _ m)
element-value n m numbers positive below (difference a b) =
    ap₂ (λ x y. (x + (m - y)) % m) (element-value n m numbers positive below a) (element-value n m numbers positive below b)
    ∙ difference-value m _ _ positive

-- the numbers of a list are below m
abbrev pub AreListedBelow : ℕ → List ℕ → Type 0
AreListedBelow m [] = Unit {0}
AreListedBelow m (x ∷ xs) = (x < m) × AreListedBelow m xs

pub listed-below : (m : ℕ) (xs : List ℕ) → 0 < m → AreListedBelow m xs → AreBelow m (listed xs)
unfolding listed
listed-below m [] positive h i = positive
listed-below m (x ∷ xs) positive h zero = h.0
listed-below m (x ∷ xs) positive h (suc i) = listed-below m xs positive h.1 i

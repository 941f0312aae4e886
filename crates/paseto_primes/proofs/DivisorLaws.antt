-- Divisors: Euclid's lemma, and that each number above 1 has a prime divisor.
use Rattle.std.proofs.Common.{◌≡◌, ℕ, zero, suc, ◌+◌, ◌-◌, ◌*◌, ◌/◌, ◌%◌, ◌<◌, ◌≤◌, ◌≢◌, ◌⊎◌, inl, inr, refl, sym, ◌∙◌, ap, subst, arith, not-suc-le-zero, eq-zero-or-pos, mod-lt, one-mul, div-add-mod', lt_irrefl, mul_comm, le_of_lt, mul-le-mul_left, mul-le-mul_right, eq-or-lt_of_le, le_of_suc-le-suc}
use Rattle.std.proofs.Math.Nat.{dvd_of_mod-eq-zero, le_of_dvd, add-mod, div-add-mod, mod-mod, mod_self, mul-mod_right, mul-sub, zero-mod}
use Rattle.std.proofs.lemmas.Bool.{cases_lt}
use Rattle.std.proofs.lemmas.Nat.{mul-mod_second}
use Rattle.paseto_primes.specs.Prime.{IsPrime}

-- a multiple of d is dropped modulo d
pub without : (d m n : ℕ) → m % d ≡ 0 → (m + n) % d ≡ n % d
without d m n e = add-mod m n d ∙ ap (λ k. (k + n % d) % d) e ∙ ap (λ k. k % d) (omega arith) ∙ mod-mod n d

pub times-multiple : (d k m : ℕ) → m % d ≡ 0 → (k * m) % d ≡ 0
times-multiple d k m e =
    let none : k * 0 ≡ 0 = omega arith in
    sym (mul-mod_second k m d) ∙ ap (λ w. (k * w) % d) e ∙ ap (λ w. w % d) none ∙ zero-mod d

pub multiple-times : (d m k : ℕ) → m % d ≡ 0 → (m * k) % d ≡ 0
multiple-times d m k e = ap (λ w. w % d) (mul_comm m k) ∙ times-multiple d k m e

-- the quotient of a multiple
pub quotient : (d n : ℕ) → n % d ≡ 0 → d * (n / d) ≡ n
quotient d n e = omega (arith, div-add-mod n d)

pub multiple-is : (d n k : ℕ) → n ≡ d * k → n % d ≡ 0
multiple-is d n k e = ap (λ w. w % d) e ∙ mul-mod_right d k

-- a divisor is not greater
pub le_from_multiple : (d n : ℕ) → 0 < n → n % d ≡ 0 → d ≤ n
le_from_multiple d n positive e = le_of_dvd positive (dvd_of_mod-eq-zero d e)

pub divides-trans : (c d n : ℕ) → d % c ≡ 0 → n % d ≡ 0 → n % c ≡ 0
divides-trans c d n e f = ap (λ w. w % c) (sym (quotient d n f)) ∙ multiple-times c d (n / d) e

from_mod : (g x y : ℕ) → y % g ≡ 0 → (x % y) % g ≡ 0 → x % g ≡ 0
from_mod g x y e f =
    ap (λ w. w % g) (sym (div-add-mod' x y)) ∙ without g (x / y * y) (x % y) (times-multiple g (x / y) y e) ∙ f

-- a set of numbers that has the remainder of each two of its numbers has their greatest common divisor
pub gcd-within : (P : ℕ → Type 0) → ((x y : ℕ) → 0 < y → P x → P y → P (x % y)) → (fuel x y : ℕ) → y < fuel → P x → P y
    → (g : ℕ) × P g × (x % g ≡ 0) × (y % g ≡ 0)
gcd-within P closed zero x y h px py = absurd (not-suc-le-zero h)
gcd-within P closed (suc fuel) x y h px py =
    elim (eq-zero-or-pos y) [
      | inl e ↦ (x, px, mod_self x, ap (λ k. k % x) e ∙ zero-mod x)
      | inr positive ↦
          let low : x % y < y = mod-lt x positive in
          let r : (g : ℕ) × P g × (y % g ≡ 0) × ((x % y) % g ≡ 0) =
          gcd-within P closed fuel y (x % y) (omega arith) py (closed x y positive px py) in
          (r.0, r.1, from_mod r.0 x y r.2 r.3, r.2)
    ]

annihilator-closed : (p b x y : ℕ) → (x * b) % p ≡ 0 → (y * b) % p ≡ 0 → (x % y * b) % p ≡ 0
annihilator-closed p b x y e f =
    let whole : x / y * y + x % y ≡ x = div-add-mod' x y in
    let spread : x / y * (y * b) + x % y * b ≡ x * b = omega (arith, ap (λ k. k * b) whole) in
    sym (without p (x / y * (y * b)) (x % y * b) (times-multiple p (x / y) (y * b) f)) ∙ ap (λ k. k % p) spread ∙ e

-- Euclid: a prime that divides a product divides one of the two
pub euclid : (p a b : ℕ) → IsPrime p → (a * b) % p ≡ 0 → (a % p ≡ 0) ⊎ (b % p ≡ 0)
unfolding IsPrime
euclid p a b prime e =
    let r : (g : ℕ) × ((g * b) % p ≡ 0) × (p % g ≡ 0) × (a % g ≡ 0) =
    gcd-within (λ n. (n * b) % p ≡ 0) (λ x y positive f h. annihilator-closed p b x y f h) (suc a) p a (omega arith)
    (mul-mod_right p b) e in
    elim (prime.1 r.0 r.2) [
      | inl one ↦ inr (ap (λ k. k % p) (sym (one-mul b) ∙ ap (λ k. k * b) (sym one)) ∙ r.1)
      | inr whole ↦ inl (ap (λ k. a % k) (sym whole) ∙ r.3)
    ]

-- numbers that are equal modulo d differ by a multiple of d, and the other way round
pub difference : (d a b : ℕ) → b ≤ a → a % d ≡ b % d → (a - b) % d ≡ 0
difference d a b h e =
    let whole_a : d * (a / d) + a % d ≡ a = div-add-mod a d in
    let whole_b : d * (b / d) + b % d ≡ b = div-add-mod b d in
    let spread : d * (a / d - b / d) ≡ d * (a / d) - d * (b / d) = mul-sub d (a / d) (b / d) in
    multiple-is d (a - b) (a / d - b / d) (omega arith)

pub same-from_difference : (d a b : ℕ) → b ≤ a → (a - b) % d ≡ 0 → a % d ≡ b % d
same-from_difference d a b h e =
    let whole : a ≡ a - b + b = omega arith in
    ap (λ k. k % d) whole ∙ without d (a - b) b e

cancel-ordered : (p a b c : ℕ) → IsPrime p → a % p ≢ 0 → c ≤ b → (a * b) % p ≡ (a * c) % p → b % p ≡ c % p
cancel-ordered p a b c prime unit h e =
    let product : (a * (b - c)) % p ≡ 0 = ap (λ k. k % p) (mul-sub a b c) ∙ difference p (a * b) (a * c) (mul-le-mul_left a h) e in
    elim (euclid p a (b - c) prime product) [
      | inl f ↦ absurd (unit f)
      | inr f ↦ same-from_difference p b c h f
    ]

-- a factor that the prime does not divide cancels
pub cancel : (p a b c : ℕ) → IsPrime p → a % p ≢ 0 → (a * b) % p ≡ (a * c) % p → b % p ≡ c % p
cancel p a b c prime unit e =
    elim (cases_lt b c) [
      | inl h ↦ sym (cancel-ordered p a c b prime unit (le_of_lt h) (sym e))
      | inr h ↦ cancel-ordered p a b c prime unit h e
    ]

-- a multiple of a number and of a prime that does not divide that number
pub product-divides : (f q x : ℕ) → IsPrime q → 0 < f % q → x % f ≡ 0 → x % q ≡ 0 → x % (f * q) ≡ 0
product-divides f q x prime apart e g =
    let k : ℕ = x / f in
    let whole : f * k ≡ x = quotient f x e in
    elim (euclid q f k prime (ap (λ w. w % q) whole ∙ g)) [
      | inl h ↦ absurd (not-suc-le-zero (subst (λ w. 0 < w) h apart))
      | inr h ↦
          let rest : q * (k / q) ≡ k = quotient q k h in
          let spread : f * (q * (k / q)) ≡ f * k = ap (λ w. f * w) rest in
          multiple-is (f * q) x (k / q) (omega arith)
    ]

-- ---- that a number is prime

-- it is enough to look at divisors up to the square root
pub prime-from_small : (n : ℕ) → 1 < n → ((s t : ℕ) → 1 < s → s ≤ t → s * t ≡ n → ⊥) → IsPrime n
unfolding IsPrime
prime-from_small n h none = (h, λ d e. one_or_all d (n / d) (quotient d n e))
  where
    ordered : (d e : ℕ) → d * e ≡ n → 1 < d → 1 < e → ⊥
    ordered d e w hd he =
        elim (cases_lt e d) [
          | inl less ↦ none e d he (le_of_lt less) (mul_comm e d ∙ w)
          | inr less ↦ none d e hd less w
        ]

    one_or_all : (d e : ℕ) → d * e ≡ n → (d ≡ 1) ⊎ (d ≡ n)
    one_or_all zero e w = absurd (lt_irrefl 1 (omega arith))
    one_or_all (suc zero) e w = inl refl
    one_or_all (suc (suc d)) zero w = absurd (lt_irrefl 1 (omega arith))
    one_or_all (suc (suc d)) (suc zero) w = inr (omega arith)
    one_or_all (suc (suc d)) (suc (suc e)) w = absurd (ordered (suc (suc d)) (suc (suc e)) w (omega arith) (omega arith))

-- the least divisor above 1 is prime
least-prime : (s k : ℕ) → 1 < k → s % k ≡ 0 → ((j : ℕ) → 1 < j → j < k → s % j ≢ 0) → IsPrime k
least-prime s k h e none = prime-from_small k h (λ a b ha hab w. no_divisor a b ha hab w)
  where
    no_divisor : (a b : ℕ) → 1 < a → a ≤ b → a * b ≡ k → ⊥
    no_divisor a b ha hab w =
        let twice : 2 * b ≤ a * b = mul-le-mul_right b ha in
        none a ha (omega arith) (divides-trans a k s (multiple-is a k b (sym w)) e)

search-prime : (s fuel k : ℕ) → k + fuel ≡ s → 1 < k → ((j : ℕ) → 1 < j → j < k → s % j ≢ 0) → (r : ℕ) × IsPrime r × (s % r ≡ 0)
search-prime s zero k e h none =
    let same : s ≡ k = omega arith in
    let divides : s % k ≡ 0 = ap (λ w. w % k) same ∙ mod_self k in
    (k, least-prime s k h divides none, divides)
search-prime s (suc fuel) k e h none =
    elim (eq-zero-or-pos (s % k)) [
      | inl divides ↦ (k, least-prime s k h divides none, divides)
      | inr positive ↦
          search-prime s fuel (suc k) (omega arith) (omega arith)
          (λ j hj below. elim (eq-or-lt_of_le (le_of_suc-le-suc below)) [
            | inl same ↦ λ zero_there. lt_irrefl 0 (subst (λ w. 0 < w) (ap (λ w. s % w) (sym same) ∙ zero_there) positive)
            | inr less ↦ none j hj less
          ])
    ]

-- each number above 1 has a prime divisor
pub prime-divisor : (s : ℕ) → 1 < s → (r : ℕ) × IsPrime r × (s % r ≡ 0)
prime-divisor s h = search-prime s (s - 2) 2 (omega arith) (omega arith) (λ j low high. absurd (lt_irrefl 1 (omega arith)))

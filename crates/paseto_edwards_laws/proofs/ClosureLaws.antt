-- The sum of two points of a twisted Edwards curve lies on it, as its coordinates are quotients.
use Rattle.std.proofs.Common.{◌≢◌, ◌≡◌, ℕ, ◌+◌, ◌*◌, ◌%◌, refl, sym, ◌∙◌, ap, arith}
use Rattle.paseto_edwards_laws.specs.Group.{IsOn}
use Rattle.paseto_primes.specs.Prime.{IsPrime}
use Rattle.paseto_primes.proofs.CongruenceLaws.{cancel-plus, product-not_zero, same-plus, same-times}
use Rattle.paseto_primes.proofs.DivisorLaws.{cancel}
use Rattle.paseto_edwards_laws.proofs.Closure.{summed}

-- (1 - e) ^ 2 + 2 * e is 1 + e ^ 2
square-of_difference : (p e s : ℕ) → (s + e) % p ≡ 1 % p → (s * s + 2 * e) % p ≡ (1 + e * e) % p
square-of_difference p e s whole =
    let by_s : (s * (s + e)) % p ≡ (s * 1) % p = same-times p s s (s + e) 1 refl whole in
    let by_e : (e * (s + e)) % p ≡ (e * 1) % p = same-times p e e (s + e) 1 refl whole in
    let left : e * (s + e) + (s * s + 2 * e) ≡ e * e + (s * (s + e) + 2 * e) = omega arith in
    let right : e * e + (s * 1 + 2 * e) ≡ e * 1 + (e * e + (s + e)) = omega arith in
    let last : e * e + 1 ≡ 1 + e * e = omega arith in
    cancel-plus p (e * (s + e)) (s * s + 2 * e) (1 + e * e)
    (ap (λ k. k % p) left
    ∙ same-plus p (e * e) (e * e) (s * (s + e) + 2 * e) (s * 1 + 2 * e) refl (same-plus p (s * (s + e)) (s * 1) (2 * e) (2 * e) by_s refl)
    ∙ ap (λ k. k % p) right
    ∙ same-plus p (e * 1) (e * (s + e)) (e * e + (s + e)) (1 + e * e) (sym by_e)
    (same-plus p (e * e) (e * e) (s + e) 1 refl whole ∙ ap (λ k. k % p) last))

-- x and y are the sum's coordinates n / g and m / s
closed-quotients : (p d e g s n m x y : ℕ) → IsPrime p → g % p ≢ 0 → s % p ≢ 0 → (s + e) % p ≡ 1 % p
    → (g * x) % p ≡ n % p → (s * y) % p ≡ m % p
    → (g * g * (m * m) + 2 * e * (g * g + n * n)) % p ≡ ((1 + e * e) * (g * g + n * n) + d * (n * n * (m * m))) % p → IsOn p d x y
closed-quotients p d e g s n m x y prime g_unit s_unit whole x_is y_is all =
    let k : ℕ = g * g + n * n in
    let r : ℕ = d * (n * n * (m * m)) in
    let apart : (s * s + 2 * e) * k + r ≡ 2 * e * k + (s * s * k + r) = omega arith in
    let turned : 2 * e * k + g * g * (m * m) ≡ g * g * (m * m) + 2 * e * k = omega arith in
    let short : (g * g * (m * m)) % p ≡ (s * s * k + r) % p =
    cancel-plus p (2 * e * k) (g * g * (m * m)) (s * s * k + r)
    (ap (λ w. w % p) turned ∙ all
    ∙ same-plus p ((1 + e * e) * k) ((s * s + 2 * e) * k) r r (same-times p (1 + e * e) (s * s + 2 * e) k k (sym (square-of_difference p e s whole)) refl) refl
    ∙ ap (λ w. w % p) apart) in
    let n_n : (g * x * (g * x)) % p ≡ (n * n) % p = same-times p (g * x) n (g * x) n x_is x_is in
    let m_m : (s * y * (s * y)) % p ≡ (m * m) % p = same-times p (s * y) m (s * y) m y_is y_is in
    let left : g * g * (s * s) * (y * y) ≡ g * g * (s * y * (s * y)) = omega arith in
    let right : g * g * (s * s) * (1 + x * x + d * (x * x * (y * y)))
    ≡ s * s * (g * g + g * x * (g * x)) + d * (g * x * (g * x) * (s * y * (s * y))) = omega arith in
    cancel p (g * g * (s * s)) (y * y) (1 + x * x + d * (x * x * (y * y))) prime
    (product-not_zero p (g * g) (s * s) prime (product-not_zero p g g prime g_unit g_unit) (product-not_zero p s s prime s_unit s_unit))
    (ap (λ w. w % p) left ∙ same-times p (g * g) (g * g) (s * y * (s * y)) (m * m) refl m_m ∙ short
    ∙ sym (ap (λ w. w % p) right
    ∙ same-plus p (s * s * (g * g + g * x * (g * x))) (s * s * k) (d * (g * x * (g * x) * (s * y * (s * y)))) r
    (same-times p (s * s) (s * s) (g * g + g * x * (g * x)) k refl (same-plus p (g * g) (g * g) (g * x * (g * x)) (n * n) refl n_n))
    (same-times p d d (g * x * (g * x) * (s * y * (s * y))) (n * n * (m * m)) refl
    (same-times p (g * x * (g * x)) (n * n) (s * y * (s * y)) (m * m) n_n m_m))))

-- (a, b) is the sum of (x, y) and (v, w); s is 1 - d * x * v * y * w
unfoldable pub IsSum : ℕ → ℕ → ℕ → ℕ → ℕ → ℕ → ℕ → ℕ → ℕ → Type 0
IsSum p d x y v w a b s =
    ((s + d * (x * v * (y * w))) % p ≡ 1 % p)
    × (((1 + d * (x * v * (y * w))) * a) % p ≡ (x * w + y * v) % p)
    × ((s * b) % p ≡ (y * w + x * v) % p)

pub closed : (p d x y v w a b s : ℕ) → IsPrime p → IsOn p d x y → IsOn p d v w → (1 + d * (x * v * (y * w))) % p ≢ 0 → s % p ≢ 0
    → IsSum p d x y v w a b s → IsOn p d a b
unfolding IsSum
closed p d x y v w a b s prime on on' g_unit s_unit sum =
    closed-quotients p d (d * (x * v * (y * w))) (1 + d * (x * v * (y * w))) s (x * w + y * v) (y * w + x * v) a b prime g_unit s_unit
    sum.0 sum.1 sum.2 (summed p x y v w d on on')

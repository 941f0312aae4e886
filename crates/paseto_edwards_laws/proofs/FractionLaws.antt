-- The two ways to add three points give the same coordinates, as these are quotients.
use Rattle.std.proofs.Common.{◌≡◌, ◌≢◌, ℕ, ◌+◌, ◌*◌, ◌%◌, refl, sym, ◌∙◌, ap, arith}
use Rattle.paseto_edwards_laws.specs.Group.{IsOn}
use Rattle.paseto_primes.specs.Prime.{IsPrime}
use Rattle.paseto_edwards_laws.proofs.Associativity.{first, second}
use Rattle.paseto_edwards_laws.proofs.ClosureLaws.{IsSum}
use Rattle.paseto_primes.proofs.CongruenceLaws.{cancel-plus, product-not_zero, same-plus, same-times}
use Rattle.paseto_primes.proofs.DivisorLaws.{cancel}

-- the sum of a sum (a, b) = (n / g, m / q) and (s, t), over the denominators g and q
left-first : (p d g q n m a b s t c : ℕ) → (g * a) % p ≡ n % p → (q * b) % p ≡ m % p
    → ((1 + d * (a * s * (b * t))) * c) % p ≡ (a * t + b * s) % p
    → ((g * q + d * (n * s * (m * t))) * c) % p ≡ (n * q * t + m * g * s) % p
left-first p d g q n m a b s t c a_is b_is c_is =
    let left : g * q * ((1 + d * (a * s * (b * t))) * c) ≡ (g * q + d * (g * a * s * (q * b * t))) * c = omega arith in
    let right : g * q * (a * t + b * s) ≡ g * a * q * t + q * b * g * s = omega arith in
    sym (ap (λ k. k % p) left
    ∙ same-times p (g * q + d * (g * a * s * (q * b * t))) (g * q + d * (n * s * (m * t))) c c
    (same-plus p (g * q) (g * q) (d * (g * a * s * (q * b * t))) (d * (n * s * (m * t))) refl
    (same-times p d d (g * a * s * (q * b * t)) (n * s * (m * t)) refl
    (same-times p (g * a * s) (n * s) (q * b * t) (m * t) (same-times p (g * a) n s s a_is refl) (same-times p (q * b) m t t b_is refl)))) refl)
    ∙ same-times p (g * q) (g * q) ((1 + d * (a * s * (b * t))) * c) (a * t + b * s) refl c_is
    ∙ ap (λ k. k % p) right
    ∙ same-plus p (g * a * q * t) (n * q * t) (q * b * g * s) (m * g * s)
    (same-times p (g * a * q) (n * q) t t (same-times p (g * a) n q q a_is refl) refl)
    (same-times p (q * b * g) (m * g) s s (same-times p (q * b) m g g b_is refl) refl)

left-second : (p g q n m a b s t k c : ℕ) → (g * a) % p ≡ n % p → (q * b) % p ≡ m % p
    → (k * c) % p ≡ (b * t + a * s) % p
    → (g * q * k * c) % p ≡ (m * g * t + n * q * s) % p
left-second p g q n m a b s t k c a_is b_is c_is =
    let left : g * q * k * c ≡ g * q * (k * c) = omega arith in
    let right : g * q * (b * t + a * s) ≡ q * b * g * t + g * a * q * s = omega arith in
    ap (λ w. w % p) left
    ∙ same-times p (g * q) (g * q) (k * c) (b * t + a * s) refl c_is
    ∙ ap (λ w. w % p) right
    ∙ same-plus p (q * b * g * t) (m * g * t) (g * a * q * s) (n * q * s)
    (same-times p (q * b * g) (m * g) t t (same-times p (q * b) m g g b_is refl) refl)
    (same-times p (g * a * q) (n * q) s s (same-times p (g * a) n q q a_is refl) refl)

-- the denominators of the second coordinate
left-denominator : (p d g q n m a b s t k : ℕ) → (g * a) % p ≡ n % p → (q * b) % p ≡ m % p → (k + d * (a * s * (b * t))) % p ≡ 1 % p
    → (g * q * k + d * (n * s * (m * t))) % p ≡ (g * q) % p
left-denominator p d g q n m a b s t k a_is b_is k_is =
    let left : g * q * (k + d * (a * s * (b * t))) ≡ g * q * k + d * (g * a * s * (q * b * t)) = omega arith in
    let one : g * q * 1 ≡ g * q = omega arith in
    sym (ap (λ w. w % p) left
    ∙ same-plus p (g * q * k) (g * q * k) (d * (g * a * s * (q * b * t))) (d * (n * s * (m * t))) refl
    (same-times p d d (g * a * s * (q * b * t)) (n * s * (m * t)) refl
    (same-times p (g * a * s) (n * s) (q * b * t) (m * t) (same-times p (g * a) n s s a_is refl) (same-times p (q * b) m t t b_is refl))))
    ∙ same-times p (g * q) (g * q) (k + d * (a * s * (b * t))) 1 refl k_is ∙ ap (λ w. w % p) one

-- the unit g * q + d * n * s * m * t
left-unit : (p d g q n m a b s t : ℕ) → IsPrime p → g % p ≢ 0 → q % p ≢ 0 → (1 + d * (a * s * (b * t))) % p ≢ 0
    → (g * a) % p ≡ n % p → (q * b) % p ≡ m % p → (g * q + d * (n * s * (m * t))) % p ≢ 0
left-unit p d g q n m a b s t prime g_unit q_unit unit a_is b_is none =
    let whole : g * q * (1 + d * (a * s * (b * t))) ≡ g * q + d * (g * a * s * (q * b * t)) = omega arith in
    product-not_zero p (g * q) (1 + d * (a * s * (b * t))) prime (product-not_zero p g q prime g_unit q_unit) unit
    (ap (λ w. w % p) whole
    ∙ same-plus p (g * q) (g * q) (d * (g * a * s * (q * b * t))) (d * (n * s * (m * t))) refl
    (same-times p d d (g * a * s * (q * b * t)) (n * s * (m * t)) refl
    (same-times p (g * a * s) (n * s) (q * b * t) (m * t) (same-times p (g * a) n s s a_is refl) (same-times p (q * b) m t t b_is refl)))
    ∙ none)

-- equal fractions
fractions : (p a b c e m n : ℕ) → IsPrime p → a % p ≢ 0 → b % p ≢ 0 → (a * c) % p ≡ m % p → (b * e) % p ≡ n % p → (m * b) % p ≡ (n * a) % p → c % p ≡ e % p
fractions p a b c e m n prime a_unit b_unit c_is e_is same =
    let left : a * b * c ≡ a * c * b = omega arith in
    let right : b * e * a ≡ a * b * e = omega arith in
    cancel p (a * b) c e prime (product-not_zero p a b prime a_unit b_unit)
    (ap (λ w. w % p) left ∙ same-times p (a * c) m b b c_is refl ∙ same ∙ sym (same-times p (b * e) n a a e_is refl) ∙ ap (λ w. w % p) right)

without-signs : (p k l m n a b i j : ℕ) → (k + a) % p ≡ i % p → (l + b) % p ≡ j % p → (m * j + n * a) % p ≡ (n * i + m * b) % p
    → (m * l) % p ≡ (n * k) % p
without-signs p k l m n a b i j k_is l_is same =
    let left : m * b + n * a + m * l ≡ m * (l + b) + n * a = omega arith in
    let right : n * (k + a) + m * b ≡ m * b + n * a + n * k = omega arith in
    cancel-plus p (m * b + n * a) (m * l) (n * k)
    (ap (λ w. w % p) left ∙ same-plus p (m * (l + b)) (m * j) (n * a) (n * a) (same-times p m m (l + b) j refl l_is) refl ∙ same
    ∙ sym (same-plus p (n * (k + a)) (n * i) (m * b) (m * b) (same-times p n n (k + a) i refl k_is) refl) ∙ ap (λ w. w % p) right)

-- the two ways to add three points: (a, b) is the first sum of two, (f, g) the second, (c, e) and (h, i) those of three
pub associative : (p d x y v w s t a b q f g r c e k h i l : ℕ) → IsPrime p → IsOn p d x y → IsOn p d v w → IsOn p d s t
    → (1 + d * (x * v * (y * w))) % p ≢ 0 → q % p ≢ 0 → (1 + d * (v * s * (w * t))) % p ≢ 0 → r % p ≢ 0
    → (1 + d * (a * s * (b * t))) % p ≢ 0 → k % p ≢ 0 → (1 + d * (x * f * (y * g))) % p ≢ 0 → l % p ≢ 0
    → IsSum p d x y v w a b q → IsSum p d v w s t f g r → IsSum p d a b s t c e k → IsSum p d x y f g h i l
    → (c % p ≡ h % p) × (e % p ≡ i % p)
unfolding IsSum
associative p d x y v w s t a b q f g r c e k h i l prime on-x on-v on-s u1 u2 u3 u4 u5 u6 u7 u8 ab fg ce hi =
    let n1 : ℕ = 1 + d * (x * v * (y * w)) in
    let n2 : ℕ = 1 + d * (v * s * (w * t)) in
    let turned : d * (f * x * (g * y)) ≡ d * (x * f * (y * g)) = omega arith in
    let turn_h : f * y + g * x ≡ x * g + y * f = omega arith in
    let turn_i : g * y + f * x ≡ y * g + x * f = omega arith in
    let h_is : ((1 + d * (f * x * (g * y))) * h) % p ≡ (f * y + g * x) % p = ap (λ z. ((1 + z) * h) % p) turned ∙ hi.1 ∙ ap (λ z. z % p) (sym turn_h) in
    let i_is : (l * i) % p ≡ (g * y + f * x) % p = hi.2 ∙ ap (λ z. z % p) (sym turn_i) in
    let l_is : (l + d * (f * x * (g * y))) % p ≡ 1 % p = ap (λ z. (l + z) % p) turned ∙ hi.0 in
    let unit_l : (1 + d * (f * x * (g * y))) % p ≢ 0 = λ none. u7 (ap (λ z. (1 + z) % p) (sym turned) ∙ none) in
    let back : d * ((v * t + w * s) * x * ((w * t + v * s) * y)) ≡ d * (x * (v * t + w * s) * (y * (w * t + v * s))) = omega arith in
    let den_a : ((n1 * q + d * ((x * w + y * v) * s * ((y * w + x * v) * t))) * c) % p ≡ ((x * w + y * v) * q * t + (y * w + x * v) * n1 * s) % p =
    left-first p d n1 q (x * w + y * v) (y * w + x * v) a b s t c ab.1 ab.2 ce.1 in
    let den_b : ((n2 * r + d * ((v * t + w * s) * x * ((w * t + v * s) * y))) * h) % p ≡ ((v * t + w * s) * r * y + (w * t + v * s) * n2 * x) % p =
    left-first p d n2 r (v * t + w * s) (w * t + v * s) f g x y h fg.1 fg.2 h_is in
    let num_b : (v * t + w * s) * r * y + (w * t + v * s) * n2 * x ≡ x * ((w * t + v * s) * n2) + y * ((v * t + w * s) * r) =
    turn (v * t + w * s) (w * t + v * s) r n2 x y in
    let num_d : (w * t + v * s) * n2 * y + (v * t + w * s) * r * x ≡ y * ((w * t + v * s) * n2) + x * ((v * t + w * s) * r) =
    turned-second (w * t + v * s) (v * t + w * s) n2 r x y in (
      fractions p (n1 * q + d * ((x * w + y * v) * s * ((y * w + x * v) * t))) (n2 * r + d * (x * (v * t + w * s) * (y * (w * t + v * s)))) c h
          ((x * w + y * v) * q * t + (y * w + x * v) * n1 * s) (x * ((w * t + v * s) * n2) + y * ((v * t + w * s) * r)) prime
          (left-unit p d n1 q (x * w + y * v) (y * w + x * v) a b s t prime u1 u2 u5 ab.1 ab.2)
          (λ none. left-unit p d n2 r (v * t + w * s) (w * t + v * s) f g x y prime u3 u4 unit_l fg.1 fg.2 (ap (λ z. (n2 * r + z) % p) back ∙ none))
          den_a
          (ap (λ z. ((n2 * r + z) * h) % p) (sym back) ∙ den_b ∙ ap (λ z. z % p) num_b)
          (first p x y v w s t d q r on-x on-v on-s ab.0 fg.0),
      fractions p (n1 * q * k) (n2 * r * l) e i
          ((y * w + x * v) * n1 * t + (x * w + y * v) * q * s) (y * ((w * t + v * s) * n2) + x * ((v * t + w * s) * r)) prime
          (product-not_zero p (n1 * q) k prime (product-not_zero p n1 q prime u1 u2) u6)
          (product-not_zero p (n2 * r) l prime (product-not_zero p n2 r prime u3 u4) u8)
          (left-second p n1 q (x * w + y * v) (y * w + x * v) a b s t k e ab.1 ab.2 ce.2)
          (left-second p n2 r (v * t + w * s) (w * t + v * s) f g x y l i fg.1 fg.2 i_is ∙ ap (λ z. z % p) num_d)
          (without-signs p (n1 * q * k) (n2 * r * l) ((y * w + x * v) * n1 * t + (x * w + y * v) * q * s) (y * ((w * t + v * s) * n2) + x * ((v * t + w * s) * r))
          (d * ((x * w + y * v) * s * ((y * w + x * v) * t))) (d * (x * (v * t + w * s) * (y * (w * t + v * s)))) (n1 * q) (n2 * r)
          (left-denominator p d n1 q (x * w + y * v) (y * w + x * v) a b s t k ab.1 ab.2 ce.0)
          (ap (λ z. (n2 * r * l + z) % p) (sym back) ∙ left-denominator p d n2 r (v * t + w * s) (w * t + v * s) f g x y l fg.1 fg.2 l_is)
          (second p x y v w s t d q r on-x on-v on-s ab.0 fg.0)),
    )
  where
    turn : (a b c e x y : ℕ) → a * c * y + b * e * x ≡ x * (b * e) + y * (a * c)
    turn a b c e x y = omega arith

    turned-second : (a b c e x y : ℕ) → a * c * y + b * e * x ≡ y * (a * c) + x * (b * e)
    turned-second a b c e x y = omega arith

-- The formulas of extended coordinates give the sum and the double of a point.
use Rattle.std.proofs.Common.{◌≡◌, ◌≢◌, ℕ, ◌+◌, ◌-◌, ◌*◌, ◌%◌, ◌<◌, refl, sym, ◌∙◌, ap, arith, mod-lt, mod-eq_of_lt, mul-one, lt_irrefl, ◌^◌}
use Rattle.std.proofs.Math.Nat.{add-mul-mod_self_right, mod-mod, zero-mod}
use Rattle.paseto_edwards_laws.specs.Group.{Affine, IsComplete, IsPoint, cross, opposite, sum}
use Rattle.paseto_primes.specs.Element.{minus, plus, times}
use Rattle.paseto_edwards_laws.specs.Extended.{Extended, Stands, added, doubled, negated, of_affine}
use Rattle.paseto_primes.specs.Prime.{IsPrime}
use Rattle.paseto_edwards_laws.proofs.GroupLaws.{opposite-number, opposite-point, minus-unit, plus-unit, positive-prime, sum-is, sum-point}
use Rattle.paseto_edwards_laws.proofs.ClosureLaws.{IsSum}
use Rattle.paseto_primes.proofs.CongruenceLaws.{cancel-plus, equal-by, product-not_zero, same-plus, same-times}
use Rattle.paseto_primes.proofs.DivisorLaws.{multiple-times}
use Rattle.paseto_primes.proofs.EulerLaws.{inverse}
use Rattle.paseto_primes.proofs.FermatLaws.{above-one}

pub minus-is : (p a b c : ℕ) → b < p → (c + b) % p ≡ a % p → minus p a b % p ≡ c % p
unfolding minus
minus-is p a b c low e =
    let back : b + (a + (p - b)) ≡ a + 1 * p = omega arith in
    let turn : c + b ≡ b + c = omega arith in
    mod-mod (a + (p - b)) p
    ∙ cancel-plus p b (a + (p - b)) c (ap (λ k. k % p) back ∙ add-mul-mod_self_right a 1 p ∙ sym e ∙ ap (λ k. k % p) turn)

pub plus-is : (p a b c e : ℕ) → a % p ≡ c % p → b % p ≡ e % p → plus p a b % p ≡ (c + e) % p
unfolding plus
plus-is p a b c e same same' = mod-mod (a + b) p ∙ same-plus p a c b e same same'

pub times-is : (p a b c e : ℕ) → a % p ≡ c % p → b % p ≡ e % p → times p a b % p ≡ (c * e) % p
unfolding times
times-is p a b c e same same' = mod-mod (a * b) p ∙ same-times p a c b e same same'

times-low : (p a b : ℕ) → 0 < p → times p a b < p
unfolding times
times-low p a b positive = mod-lt (a * b) positive

-- Y - X
difference-is : (p m x y z a b : ℕ) → p ≡ m + 1 → a < p → a % p ≡ (x * z) % p → b % p ≡ (y * z) % p → minus p b a % p ≡ ((y + m * x) * z) % p
difference-is p m x y z a b p_is low a_is b_is =
    let k : x * z * p ≡ x * z * (m + 1) = ap (λ n. x * z * n) p_is in
    let whole : (y + m * x) * z + x * z + 0 * p ≡ y * z + x * z * p = omega arith in
    minus-is p b a ((y + m * x) * z) low
    (same-plus p ((y + m * x) * z) ((y + m * x) * z) a (x * z) refl a_is ∙ equal-by p ((y + m * x) * z + x * z) (y * z) 0 (x * z) whole ∙ sym b_is)

-- E = B - A, and H = B + A
first-is : (p m x y v w z u a b : ℕ) → p ≡ m + 1 → a < p → a % p ≡ ((y + m * x) * z * ((w + m * v) * u)) % p
    → b % p ≡ ((y * z + x * z) * (w * u + v * u)) % p → minus p b a % p ≡ (2 * (z * u) * (x * w + y * v)) % p
first-is p m x y v w z u a b p_is low a_is b_is =
    let n : ℕ = 2 * (z * u) * (x * w + y * v) in
    let k : x * v * z * u * p ≡ x * v * z * u * (m + 1) = ap (λ n. x * v * z * u * n) p_is in
    let j : ((x * w + y * v) * z * u + m * x * v * z * u) * p ≡ ((x * w + y * v) * z * u + m * x * v * z * u) * (m + 1) =
    ap (λ n. ((x * w + y * v) * z * u + m * x * v * z * u) * n) p_is in
    let whole : n + (y + m * x) * z * ((w + m * v) * u) + x * v * z * u * p
    ≡ (y * z + x * z) * (w * u + v * u) + ((x * w + y * v) * z * u + m * x * v * z * u) * p = omega arith in
    minus-is p b a n low
    (same-plus p n n a ((y + m * x) * z * ((w + m * v) * u)) refl a_is
    ∙ equal-by p (n + (y + m * x) * z * ((w + m * v) * u)) ((y * z + x * z) * (w * u + v * u)) (x * v * z * u)
    ((x * w + y * v) * z * u + m * x * v * z * u) whole
    ∙ sym b_is)

second-is : (p m x y v w z u a b : ℕ) → p ≡ m + 1 → a % p ≡ ((y + m * x) * z * ((w + m * v) * u)) % p
    → b % p ≡ ((y * z + x * z) * (w * u + v * u)) % p → plus p b a % p ≡ (2 * (z * u) * (y * w + x * v)) % p
second-is p m x y v w z u a b p_is a_is b_is =
    let n : ℕ = 2 * (z * u) * (y * w + x * v) in
    let k : x * v * z * u * p ≡ x * v * z * u * (m + 1) = ap (λ n. x * v * z * u * n) p_is in
    let j : ((x * w + y * v) * z * u + m * x * v * z * u) * p ≡ ((x * w + y * v) * z * u + m * x * v * z * u) * (m + 1) =
    ap (λ n. ((x * w + y * v) * z * u + m * x * v * z * u) * n) p_is in
    let whole : (y * z + x * z) * (w * u + v * u) + (y + m * x) * z * ((w + m * v) * u) + x * v * z * u * p
    ≡ n + ((x * w + y * v) * z * u + m * x * v * z * u) * p = omega arith in
    plus-is p b a ((y * z + x * z) * (w * u + v * u)) ((y + m * x) * z * ((w + m * v) * u)) b_is a_is
    ∙ equal-by p ((y * z + x * z) * (w * u + v * u) + (y + m * x) * z * ((w + m * v) * u)) n (x * v * z * u)
    ((x * w + y * v) * z * u + m * x * v * z * u) whole

-- C = 2 * d * T * S
product-is : (p d x y v w z u t s : ℕ) → t % p ≡ (x * y * z) % p → s % p ≡ (v * w * u) % p
    → times p (times p t (2 * d % p)) s % p ≡ (2 * (z * u) * (d * (x * v * (y * w)))) % p
product-is p d x y v w z u t s t_is s_is =
    let turned : x * y * z * (2 * d) * (v * w * u) ≡ 2 * (z * u) * (d * (x * v * (y * w))) = omega arith in
    times-is p (times p t (2 * d % p)) s (x * y * z * (2 * d)) (v * w * u) (times-is p t (2 * d % p) (x * y * z) (2 * d) t_is (mod-mod (2 * d) p)) s_is
    ∙ ap (λ k. k % p) turned

-- F = D - C, and G = D + C
minus-factor : (p k e s c g : ℕ) → c < p → c % p ≡ (2 * k * e) % p → g % p ≡ (k + k) % p → (s + e) % p ≡ 1 % p → minus p g c % p ≡ (2 * k * s) % p
minus-factor p k e s c g low c_is g_is whole =
    let left : 2 * k * s + 2 * k * e ≡ 2 * k * (s + e) = omega arith in
    let right : 2 * k * 1 ≡ k + k = omega arith in
    minus-is p g c (2 * k * s) low
    (same-plus p (2 * k * s) (2 * k * s) c (2 * k * e) refl c_is ∙ ap (λ n. n % p) left ∙ same-times p (2 * k) (2 * k) (s + e) 1 refl whole
    ∙ ap (λ n. n % p) right ∙ sym g_is)

plus-factor : (p k e c g : ℕ) → c % p ≡ (2 * k * e) % p → g % p ≡ (k + k) % p → plus p g c % p ≡ (2 * k * (1 + e)) % p
plus-factor p k e c g c_is g_is =
    let right : k + k + 2 * k * e ≡ 2 * k * (1 + e) = omega arith in
    plus-is p g c (k + k) (2 * k * e) g_is c_is ∙ ap (λ n. n % p) right

-- what four factors give, where e / g and h / f are a point's coordinates
factors-stand : (p d e f g h : ℕ) (a : Affine) → IsPrime p → IsPoint p d a → f % p ≢ 0 → g % p ≢ 0 → e % p ≡ (g * a.x) % p → h % p ≡ (f * a.y) % p
    → Stands p d (record { x = times p e f; y = times p g h; z = times p f g; t = times p e h }) a
unfolding times
factors-stand p d e f g h a prime point f_unit g_unit e_is h_is =
    let turn-x : g * a.x * f ≡ a.x * (f * g) = omega arith in
    let turn-y : g * (f * a.y) ≡ a.y * (f * g) = omega arith in
    let turn-t : g * a.x * (f * a.y) ≡ a.x * a.y * (f * g) = omega arith in
    record {
      point = point;
      x_low = mod-lt (e * f) (positive-prime p prime);
      t_low = mod-lt (e * h) (positive-prime p prime);
      unit = λ none. product-not_zero p f g prime f_unit g_unit (sym (mod-mod (f * g) p) ∙ none);
      x_is = mod-mod (e * f) p ∙ same-times p e (g * a.x) f f e_is refl ∙ ap (λ k. k % p) turn-x
          ∙ same-times p a.x a.x (f * g) ((f * g) % p) refl (sym (mod-mod (f * g) p));
      y_is = mod-mod (g * h) p ∙ same-times p g g h (f * a.y) refl h_is ∙ ap (λ k. k % p) turn-y
          ∙ same-times p a.y a.y (f * g) ((f * g) % p) refl (sym (mod-mod (f * g) p));
      t_is = mod-mod (e * h) p ∙ same-times p e (g * a.x) h (f * a.y) e_is h_is ∙ ap (λ k. k % p) turn-t
          ∙ same-times p (a.x * a.y) (a.x * a.y) (f * g) ((f * g) % p) refl (sym (mod-mod (f * g) p));
    }

scaled : (p k g n c e f : ℕ) → e % p ≡ (k * n) % p → f % p ≡ (k * g) % p → (g * c) % p ≡ n % p → e % p ≡ (f * c) % p
scaled p k g n c e f e_is f_is c_is =
    let turned : k * g * c ≡ k * (g * c) = omega arith in
    e_is ∙ sym (same-times p f (k * g) c c f_is refl ∙ ap (λ w. w % p) turned ∙ same-times p k k (g * c) n refl c_is)

unit-of : (p f k g : ℕ) → IsPrime p → k % p ≢ 0 → g % p ≢ 0 → f % p ≡ (k * g) % p → f % p ≢ 0
unit-of p f k g prime k_unit g_unit f_is none = product-not_zero p k g prime k_unit g_unit (sym f_is ∙ none)

two-unit : (p : ℕ) → 2 < p → 2 % p ≢ 0
two-unit p odd none = lt_irrefl 0 (omega (arith, mod-eq_of_lt odd))

pub added-stands : (p d : ℕ) → IsComplete p d → (q r : Extended) (a b : Affine) → Stands p d q a → Stands p d r b
    → Stands p d (added p d q r) (sum p d a b)
unfolding added cross IsSum
added-stands p d curve q r a b qa rb =
    let m : ℕ = p - 1 in
    let positive : 0 < p = positive-prime p curve.prime in
    let p_is : p ≡ m + 1 = omega arith in
    let e : ℕ = d * (a.x * b.x * (a.y * b.y)) in
    let s : ℕ = 1 + (p - e % p) in
    let k : ℕ = q.z * r.z in
    let equations : IsSum p d a.x a.y b.x b.y (sum p d a b).x (sum p d a b).y s = sum-is p d curve a b qa.point rb.point in
    let fa : ℕ = times p (minus p q.y q.x) (minus p r.y r.x) in
    let fb : ℕ = times p (plus p q.y q.x) (plus p r.y r.x) in
    let fc : ℕ = times p (times p q.t (2 * d % p)) r.t in
    let fz : ℕ = times p q.z r.z in
    let a_is : fa % p ≡ ((a.y + m * a.x) * q.z * ((b.y + m * b.x) * r.z)) % p =
    times-is p (minus p q.y q.x) (minus p r.y r.x) ((a.y + m * a.x) * q.z) ((b.y + m * b.x) * r.z)
    (difference-is p m a.x a.y q.z q.x q.y p_is qa.x_low qa.x_is qa.y_is) (difference-is p m b.x b.y r.z r.x r.y p_is rb.x_low rb.x_is rb.y_is) in
    let b_is : fb % p ≡ ((a.y * q.z + a.x * q.z) * (b.y * r.z + b.x * r.z)) % p =
    times-is p (plus p q.y q.x) (plus p r.y r.x) (a.y * q.z + a.x * q.z) (b.y * r.z + b.x * r.z)
    (plus-is p q.y q.x (a.y * q.z) (a.x * q.z) qa.y_is qa.x_is) (plus-is p r.y r.x (b.y * r.z) (b.x * r.z) rb.y_is rb.x_is) in
    let c_is : fc % p ≡ (2 * k * e) % p = product-is p d a.x a.y b.x b.y q.z r.z q.t r.t qa.t_is rb.t_is in
    let z_is : fz % p ≡ k % p = times-is p q.z r.z q.z r.z refl refl in
    let d_is : plus p fz fz % p ≡ (k + k) % p = plus-is p fz fz k k z_is z_is in
    let e_is : minus p fb fa % p ≡ (2 * k * (a.x * b.y + a.y * b.x)) % p =
    first-is p m a.x a.y b.x b.y q.z r.z fa fb p_is (times-low p (minus p q.y q.x) (minus p r.y r.x) positive) a_is b_is in
    let h_is : plus p fb fa % p ≡ (2 * k * (a.y * b.y + a.x * b.x)) % p = second-is p m a.x a.y b.x b.y q.z r.z fa fb p_is a_is b_is in
    let f_is : minus p (plus p fz fz) fc % p ≡ (2 * k * s) % p =
    minus-factor p k e s fc (plus p fz fz) (times-low p (times p q.t (2 * d % p)) r.t positive) c_is d_is equations.0 in
    let g_is : plus p (plus p fz fz) fc % p ≡ (2 * k * (1 + e)) % p = plus-factor p k e fc (plus p fz fz) c_is d_is in
    let k_unit : (2 * k) % p ≢ 0 =
    product-not_zero p 2 k curve.prime (two-unit p curve.odd) (product-not_zero p q.z r.z curve.prime qa.unit rb.unit) in
    factors-stand p d (minus p fb fa) (minus p (plus p fz fz) fc) (plus p (plus p fz fz) fc) (plus p fb fa) (sum p d a b) curve.prime
    (sum-point p d curve a b qa.point rb.point)
    (unit-of p (minus p (plus p fz fz) fc) (2 * k) s curve.prime k_unit (minus-unit p d curve a b qa.point rb.point) f_is)
    (unit-of p (plus p (plus p fz fz) fc) (2 * k) (1 + e) curve.prime k_unit (plus-unit p d curve a b qa.point rb.point) g_is)
    (scaled p (2 * k) (1 + e) (a.x * b.y + a.y * b.x) (sum p d a b).x (minus p fb fa) (plus p (plus p fz fz) fc) e_is g_is equations.1)
    (scaled p (2 * k) s (a.y * b.y + a.x * b.x) (sum p d a b).y (plus p fb fa) (minus p (plus p fz fz) fc) h_is f_is equations.2)

-- ---- the double

-- G = A - B, where the point is on the curve
double-third : (p m e x y k a b : ℕ) → p ≡ m + 1 → b < p → (y * y) % p ≡ (1 + x * x + e) % p → a % p ≡ (x * x * k) % p → b % p ≡ (y * y * k) % p
    → minus p a b % p ≡ (m * k * (1 + e)) % p
double-third p m e x y k a b p_is low on a_is b_is =
    let c : ℕ = m * k * (1 + e) in
    let j : k * (1 + e) * p ≡ k * (1 + e) * (m + 1) = ap (λ n. k * (1 + e) * n) p_is in
    let whole : c + (1 + x * x + e) * k + 0 * p ≡ x * x * k + k * (1 + e) * p = omega arith in
    minus-is p a b c low
    (same-plus p c c b (y * y * k) refl b_is ∙ same-plus p c c (y * y * k) ((1 + x * x + e) * k) refl (same-times p (y * y) (1 + x * x + e) k k on refl)
    ∙ equal-by p (c + (1 + x * x + e) * k) (x * x * k) 0 (k * (1 + e)) whole ∙ sym a_is)

double-first : (p m x y z h b : ℕ) → p ≡ m + 1 → b < p → h % p ≡ (x * z * (x * z) + y * z * (y * z)) % p → b % p ≡ ((x * z + y * z) * (x * z + y * z)) % p
    → minus p h b % p ≡ (m * (z * z) * (x * y + y * x)) % p
double-first p m x y z h b p_is low h_is b_is =
    let c : ℕ = m * (z * z) * (x * y + y * x) in
    let j : z * z * (x * y + y * x) * p ≡ z * z * (x * y + y * x) * (m + 1) = ap (λ n. z * z * (x * y + y * x) * n) p_is in
    let whole : c + (x * z + y * z) * (x * z + y * z) + 0 * p ≡ x * z * (x * z) + y * z * (y * z) + z * z * (x * y + y * x) * p = omega arith in
    minus-is p h b c low
    (same-plus p c c b ((x * z + y * z) * (x * z + y * z)) refl b_is
    ∙ equal-by p (c + (x * z + y * z) * (x * z + y * z)) (x * z * (x * z) + y * z * (y * z)) 0 (z * z * (x * y + y * x)) whole ∙ sym h_is)

double-second : (p m e s k c g : ℕ) → p ≡ m + 1 → (s + e) % p ≡ 1 % p → c % p ≡ (k + k) % p → g % p ≡ (m * k * (1 + e)) % p → plus p c g % p ≡ (k * s) % p
double-second p m e s k c g p_is s_is c_is g_is =
    let j : k * (1 + e) * p ≡ k * (1 + e) * (m + 1) = ap (λ n. k * (1 + e) * n) p_is in
    let whole : k * e + (k + k + m * k * (1 + e)) + 0 * p ≡ k * 1 + k * (1 + e) * p = omega arith in
    let turn : k * (s + e) ≡ k * e + k * s = omega arith in
    plus-is p c g (k + k) (m * k * (1 + e)) c_is g_is
    ∙ cancel-plus p (k * e) (k + k + m * k * (1 + e)) (k * s)
    (equal-by p (k * e + (k + k + m * k * (1 + e))) (k * 1) 0 (k * (1 + e)) whole ∙ sym (same-times p k k (s + e) 1 refl s_is) ∙ ap (λ n. n % p) turn)

pub doubled-stands : (p d : ℕ) → IsComplete p d → (q : Extended) (a : Affine) → Stands p d q a → Stands p d (doubled p q) (sum p d a a)
unfolding doubled cross IsSum
doubled-stands p d curve q a qa =
    let m : ℕ = p - 1 in
    let above : 1 < p = above-one p curve.prime in
    let positive : 0 < p = positive-prime p curve.prime in
    let p_is : p ≡ m + 1 = omega arith in
    let e : ℕ = d * (a.x * a.x * (a.y * a.y)) in
    let s : ℕ = 1 + (p - e % p) in
    let k : ℕ = q.z * q.z in
    let equations : IsSum p d a.x a.y a.x a.y (sum p d a a).x (sum p d a a).y s = sum-is p d curve a a qa.point qa.point in
    let fa : ℕ = times p q.x q.x in
    let fb : ℕ = times p q.y q.y in
    let fz : ℕ = times p q.z q.z in
    let fs : ℕ = times p (plus p q.x q.y) (plus p q.x q.y) in
    let a_is' : fa % p ≡ (a.x * q.z * (a.x * q.z)) % p = times-is p q.x q.x (a.x * q.z) (a.x * q.z) qa.x_is qa.x_is in
    let b_is' : fb % p ≡ (a.y * q.z * (a.y * q.z)) % p = times-is p q.y q.y (a.y * q.z) (a.y * q.z) qa.y_is qa.y_is in
    let a_is : fa % p ≡ (a.x * a.x * k) % p = a_is' ∙ ap (λ n. n % p) (four a.x q.z) in
    let b_is : fb % p ≡ (a.y * a.y * k) % p = b_is' ∙ ap (λ n. n % p) (four a.y q.z) in
    let z_is : fz % p ≡ k % p = times-is p q.z q.z q.z q.z refl refl in
    let c_is : plus p fz fz % p ≡ (k + k) % p = plus-is p fz fz k k z_is z_is in
    let h_is : plus p fa fb % p ≡ (a.x * q.z * (a.x * q.z) + a.y * q.z * (a.y * q.z)) % p =
    plus-is p fa fb (a.x * q.z * (a.x * q.z)) (a.y * q.z * (a.y * q.z)) a_is' b_is' in
    let h_is' : plus p fa fb % p ≡ (k * (a.y * a.y + a.x * a.x)) % p = h_is ∙ ap (λ n. n % p) (together a.x a.y q.z) in
    let s_is : fs % p ≡ ((a.x * q.z + a.y * q.z) * (a.x * q.z + a.y * q.z)) % p =
    times-is p (plus p q.x q.y) (plus p q.x q.y) (a.x * q.z + a.y * q.z) (a.x * q.z + a.y * q.z)
    (plus-is p q.x q.y (a.x * q.z) (a.y * q.z) qa.x_is qa.y_is) (plus-is p q.x q.y (a.x * q.z) (a.y * q.z) qa.x_is qa.y_is) in
    let e_is : minus p (plus p fa fb) fs % p ≡ (m * k * (a.x * a.y + a.y * a.x)) % p =
    double-first p m a.x a.y q.z (plus p fa fb) fs p_is (times-low p (plus p q.x q.y) (plus p q.x q.y) positive) h_is s_is in
    let g_is : minus p fa fb % p ≡ (m * k * (1 + e)) % p =
    double-third p m e a.x a.y k fa fb p_is (times-low p q.y q.y positive) qa.point.on a_is b_is in
    let f_is : plus p (plus p fz fz) (minus p fa fb) % p ≡ (k * s) % p =
    double-second p m e s k (plus p fz fz) (minus p fa fb) p_is equations.0 c_is g_is in
    let k_unit : k % p ≢ 0 = product-not_zero p q.z q.z curve.prime qa.unit qa.unit in
    let m_unit : m % p ≢ 0 = λ none. lt_irrefl 0 (omega (arith, mod-eq_of_lt (below p above))) in
    let mk_unit : (m * k) % p ≢ 0 = product-not_zero p m k curve.prime m_unit k_unit in
    factors-stand p d (minus p (plus p fa fb) fs) (plus p (plus p fz fz) (minus p fa fb)) (minus p fa fb) (plus p fa fb) (sum p d a a) curve.prime
    (sum-point p d curve a a qa.point qa.point)
    (unit-of p (plus p (plus p fz fz) (minus p fa fb)) k s curve.prime k_unit (minus-unit p d curve a a qa.point qa.point) f_is)
    (unit-of p (minus p fa fb) (m * k) (1 + e) curve.prime mk_unit (plus-unit p d curve a a qa.point qa.point) g_is)
    (scaled p (m * k) (1 + e) (a.x * a.y + a.y * a.x) (sum p d a a).x (minus p (plus p fa fb) fs) (minus p fa fb) e_is g_is equations.1)
    (scaled p k s (a.y * a.y + a.x * a.x) (sum p d a a).y (plus p fa fb) (plus p (plus p fz fz) (minus p fa fb)) h_is' f_is equations.2)
  where
    four : (x z : ℕ) → x * z * (x * z) ≡ x * x * (z * z)
    four x z = omega arith

    together : (x y z : ℕ) → x * z * (x * z) + y * z * (y * z) ≡ z * z * (y * y + x * x)
    together x y z = omega arith

    below : (p : ℕ) → 1 < p → p - 1 < p
    below p h = omega arith

-- ---- opposites, and what a point's coordinates say of it

pub opposite-stands : (p d : ℕ) → IsComplete p d → (q : Extended) (a : Affine) → Stands p d q a
    → Stands p d (negated p q) (opposite p a)
unfolding minus negated opposite
opposite-stands p d curve q a qa =
    let positive : 0 < p = positive-prime p curve.prime in
    let z : ℕ = (p - a.x) % p in
    let z_is : (z + a.x) % p ≡ 0 = opposite-number p a.x qa.point.x_low in
    record {
      point = opposite-point p d curve a qa.point;
      x_low = mod-lt (0 + (p - q.x)) positive;
      t_low = mod-lt (0 + (p - q.t)) positive;
      unit = qa.unit;
      x_is = minus-is p 0 q.x (z * q.z) qa.x_low
          (same-plus p (z * q.z) (z * q.z) q.x (a.x * q.z) refl qa.x_is ∙ ap (λ n. n % p) (spread z a.x q.z) ∙ multiple-times p (z + a.x) q.z z_is
          ∙ sym (zero-mod p));
      y_is = qa.y_is;
      t_is = minus-is p 0 q.t (z * a.y * q.z) qa.t_low
          (same-plus p (z * a.y * q.z) (z * a.y * q.z) q.t (a.x * a.y * q.z) refl qa.t_is ∙ ap (λ n. n % p) (spread' z a.x a.y q.z)
          ∙ multiple-times p (z + a.x) (a.y * q.z) z_is ∙ sym (zero-mod p));
    }
  where
    spread : (z x k : ℕ) → z * k + x * k ≡ (z + x) * k
    spread z x k = omega arith

    spread' : (z x y k : ℕ) → z * y * k + x * y * k ≡ (z + x) * (y * k)
    spread' z x y k = omega arith

coordinate : (p x z c : ℕ) → IsPrime p → z % p ≢ 0 → c < p → x % p ≡ (c * z) % p → times p x (z ^ (p - 2) % p) ≡ c
unfolding times
coordinate p x z c prime unit low x_is =
    let turned : c * z * (z ^ (p - 2) % p) ≡ c * (z * (z ^ (p - 2) % p)) = omega arith in
    same-times p x (c * z) (z ^ (p - 2) % p) (z ^ (p - 2) % p) x_is refl ∙ ap (λ n. n % p) turned
    ∙ same-times p c c (z * (z ^ (p - 2) % p)) 1 refl (inverse p z prime unit ∙ sym (mod-eq_of_lt (above-one p prime)))
    ∙ ap (λ n. n % p) (mul-one c) ∙ mod-eq_of_lt low

pub affine-x : (p d : ℕ) → IsComplete p d → (q : Extended) (a : Affine) → Stands p d q a → times p q.x (q.z ^ (p - 2) % p) ≡ a.x
affine-x p d curve q a qa = coordinate p q.x q.z a.x curve.prime qa.unit qa.point.x_low qa.x_is

pub affine-y : (p d : ℕ) → IsComplete p d → (q : Extended) (a : Affine) → Stands p d q a → times p q.y (q.z ^ (p - 2) % p) ≡ a.y
affine-y p d curve q a qa = coordinate p q.y q.z a.y curve.prime qa.unit qa.point.y_low qa.y_is

-- a point in its own coordinates
pub affine-stands : (p d : ℕ) → IsComplete p d → (a : Affine) → IsPoint p d a → Stands p d (of_affine p a) a
unfolding of_affine times
affine-stands p d curve a point =
    let above : 1 < p = above-one p curve.prime in
    record {
      point = point;
      x_low = point.x_low;
      t_low = mod-lt (a.x * a.y) (positive-prime p curve.prime);
      unit = λ none. lt_irrefl 0 (omega (arith, mod-eq_of_lt above));
      x_is = ap (λ n. n % p) (sym (mul-one a.x));
      y_is = ap (λ n. n % p) (sym (mul-one a.y));
      t_is = mod-mod (a.x * a.y) p ∙ ap (λ n. n % p) (sym (mul-one (a.x * a.y)));
    }

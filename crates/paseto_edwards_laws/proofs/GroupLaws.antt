-- The points of a complete curve are a commutative group.
use Rattle.std.proofs.Common.{◌≡◌, ◌≢◌, ℕ, ◌+◌, ◌-◌, ◌*◌, ◌^◌, ◌%◌, ◌<◌, refl, sym, ◌∙◌, ap, ap₂, arith, mod-eq_of_lt, mod-lt, mul-one}
use Rattle.std.proofs.Math.Nat.{mod-mod, mod_self, zero-mod}
use Rattle.std.proofs.lemmas.Nat.{mul-mod_second}
use Rattle.paseto_edwards_laws.specs.Group.{Affine, IsComplete, IsOn, IsPoint, cross, neutral, opposite, sum}
use Rattle.paseto_primes.specs.Prime.{IsPrime}
use Rattle.paseto_edwards_laws.proofs.ClosureLaws.{IsSum, closed}
use Rattle.paseto_primes.proofs.CongruenceLaws.{cancel-plus, same-plus, same-times}
use Rattle.paseto_edwards_laws.proofs.CompletenessLaws.{complete, minus-denominator, plus-denominator}
use Rattle.paseto_primes.proofs.DivisorLaws.{cancel, times-multiple, without}
use Rattle.paseto_primes.proofs.EulerLaws.{inverse}
use Rattle.paseto_primes.proofs.FermatLaws.{above-one}
use Rattle.paseto_edwards_laws.proofs.FractionLaws.{associative}

-- n / g is what gives n by g
divided : (p g n : ℕ) → IsPrime p → g % p ≢ 0 → (g * ((n * g ^ (p - 2)) % p)) % p ≡ n % p
divided p g n prime unit =
    let turned : g * (n * g ^ (p - 2)) ≡ n * (g * g ^ (p - 2)) = omega arith in
    mul-mod_second g (n * g ^ (p - 2)) p ∙ ap (λ k. k % p) turned ∙ sym (mul-mod_second n (g * g ^ (p - 2)) p)
    ∙ ap (λ k. (n * k) % p) (sym (mul-mod_second g (g ^ (p - 2)) p) ∙ inverse p g prime unit)
    ∙ ap (λ k. k % p) (mul-one n)

one-without : (p e : ℕ) → 0 < p → (1 + (p - e % p) + e) % p ≡ 1 % p
one-without p e positive =
    let low : e % p < p = mod-lt e positive in
    let back : 1 + (p - e % p) + e % p ≡ p + 1 = omega arith in
    same-plus p (1 + (p - e % p)) (1 + (p - e % p)) e (e % p) refl (sym (mod-mod e p)) ∙ ap (λ k. k % p) back ∙ without p p 1 (mod_self p)

pub positive-prime : (p : ℕ) → IsPrime p → 0 < p
positive-prime p prime = let h : 1 < p = above-one p prime in omega arith

pub plus-unit : (p d : ℕ) → IsComplete p d → (a b : Affine) → IsPoint p d a → IsPoint p d b → (1 + cross d a b) % p ≢ 0
unfolding cross
plus-unit p d curve a b a_is b_is =
    plus-denominator p (d * (a.x * b.x * (a.y * b.y)))
    (complete p d curve a.x a.y b.x b.y a_is.on b_is.on)

pub minus-unit : (p d : ℕ) → IsComplete p d → (a b : Affine) → IsPoint p d a → IsPoint p d b → (1 + (p - cross d a b % p)) % p ≢ 0
unfolding cross
minus-unit p d curve a b a_is b_is =
    minus-denominator p (d * (a.x * b.x * (a.y * b.y)))
    (complete p d curve a.x a.y b.x b.y a_is.on b_is.on)
    (positive-prime p curve.prime)

pub sum-is : (p d : ℕ) → IsComplete p d → (a b : Affine) → IsPoint p d a → IsPoint p d b
    → IsSum p d a.x a.y b.x b.y (sum p d a b).x (sum p d a b).y (1 + (p - cross d a b % p))
unfolding IsSum cross sum
sum-is p d curve a b a_is b_is = (
  one-without p (d * (a.x * b.x * (a.y * b.y))) (positive-prime p curve.prime),
  divided p (1 + d * (a.x * b.x * (a.y * b.y))) (a.x * b.y + a.y * b.x) curve.prime (plus-unit p d curve a b a_is b_is),
  divided p (1 + (p - d * (a.x * b.x * (a.y * b.y)) % p)) (a.y * b.y + a.x * b.x) curve.prime (minus-unit p d curve a b a_is b_is),
)

-- the coordinates of a sum are quotients
pub sum-first : (p d : ℕ) → IsComplete p d → (a b : Affine) → IsPoint p d a → IsPoint p d b
    → ((1 + cross d a b) * (sum p d a b).x) % p ≡ (a.x * b.y + a.y * b.x) % p
unfolding IsSum cross
sum-first p d curve a b a_is b_is = (sum-is p d curve a b a_is b_is).1

pub sum-second : (p d : ℕ) → IsComplete p d → (a b : Affine) → IsPoint p d a → IsPoint p d b
    → ((1 + (p - cross d a b % p)) * (sum p d a b).y) % p ≡ (a.y * b.y + a.x * b.x) % p
unfolding IsSum cross
sum-second p d curve a b a_is b_is = (sum-is p d curve a b a_is b_is).2

pub sum-point : (p d : ℕ) → IsComplete p d → (a b : Affine) → IsPoint p d a → IsPoint p d b → IsPoint p d (sum p d a b)
unfolding cross sum
sum-point p d curve a b a_is b_is =
    let positive : 0 < p = positive-prime p curve.prime in
    record {
      x_low = mod-lt ((a.x * b.y + a.y * b.x) * (1 + d * (a.x * b.x * (a.y * b.y))) ^ (p - 2)) positive;
      y_low = mod-lt ((a.y * b.y + a.x * b.x) * (1 + (p - d * (a.x * b.x * (a.y * b.y)) % p)) ^ (p - 2)) positive;
      on = closed p d a.x a.y b.x b.y (sum p d a b).x (sum p d a b).y (1 + (p - cross d a b % p)) curve.prime a_is.on b_is.on
          (plus-unit p d curve a b a_is b_is) (minus-unit p d curve a b a_is b_is) (sum-is p d curve a b a_is b_is);
    }

-- points by numbers below p are one if their coordinates are equal modulo p
pub same-point : (p d : ℕ) (a b : Affine) → IsPoint p d a → IsPoint p d b → a.x % p ≡ b.x % p → a.y % p ≡ b.y % p → a ≡ b
same-point p d a b a_is b_is same-x same-y =
    ap₂ (λ x y. affine x y) (sym (mod-eq_of_lt a_is.x_low) ∙ same-x ∙ mod-eq_of_lt b_is.x_low)
    (sym (mod-eq_of_lt a_is.y_low) ∙ same-y ∙ mod-eq_of_lt b_is.y_low)
  where
    affine : ℕ → ℕ → Affine
    affine x y = record { x = x; y = y }

pub sum-commutative : (p d : ℕ) (a b : Affine) → sum p d a b ≡ sum p d b a
unfolding cross sum
sum-commutative p d a b =
    let e : d * (a.x * b.x * (a.y * b.y)) ≡ d * (b.x * a.x * (b.y * a.y)) = omega arith in
    let n : a.x * b.y + a.y * b.x ≡ b.x * a.y + b.y * a.x = omega arith in
    let m : a.y * b.y + a.x * b.x ≡ b.y * a.y + b.x * a.x = omega arith in
    ap₂ (λ x y. affine x y)
    (ap₂ (λ k l. (k * (1 + l) ^ (p - 2)) % p) n e)
    (ap₂ (λ k l. (k * (1 + (p - l % p)) ^ (p - 2)) % p) m e)
  where
    affine : ℕ → ℕ → Affine
    affine x y = record { x = x; y = y }

pub sum-associative : (p d : ℕ) → IsComplete p d → (a b c : Affine) → IsPoint p d a → IsPoint p d b → IsPoint p d c
    → sum p d (sum p d a b) c ≡ sum p d a (sum p d b c)
unfolding cross
sum-associative p d curve a b c a_is b_is c_is =
    let ab : Affine = sum p d a b in
    let bc : Affine = sum p d b c in
    let ab_is : IsPoint p d ab = sum-point p d curve a b a_is b_is in
    let bc_is : IsPoint p d bc = sum-point p d curve b c b_is c_is in
    let both : ((sum p d ab c).x % p ≡ (sum p d a bc).x % p) × ((sum p d ab c).y % p ≡ (sum p d a bc).y % p) =
    associative p d a.x a.y b.x b.y c.x c.y ab.x ab.y (1 + (p - cross d a b % p)) bc.x bc.y (1 + (p - cross d b c % p))
    (sum p d ab c).x (sum p d ab c).y (1 + (p - cross d ab c % p)) (sum p d a bc).x (sum p d a bc).y (1 + (p - cross d a bc % p))
    curve.prime a_is.on b_is.on c_is.on
    (plus-unit p d curve a b a_is b_is) (minus-unit p d curve a b a_is b_is)
    (plus-unit p d curve b c b_is c_is) (minus-unit p d curve b c b_is c_is)
    (plus-unit p d curve ab c ab_is c_is) (minus-unit p d curve ab c ab_is c_is)
    (plus-unit p d curve a bc a_is bc_is) (minus-unit p d curve a bc a_is bc_is)
    (sum-is p d curve a b a_is b_is) (sum-is p d curve b c b_is c_is)
    (sum-is p d curve ab c ab_is c_is) (sum-is p d curve a bc a_is bc_is) in
    same-point p d (sum p d ab c) (sum p d a bc) (sum-point p d curve ab c ab_is c_is) (sum-point p d curve a bc a_is bc_is) both.0 both.1

-- a point that meets the equations of a sum is it
pub sum-unique : (p d : ℕ) → IsComplete p d → (a b c : Affine) → IsPoint p d a → IsPoint p d b → IsPoint p d c → (s : ℕ)
    → IsSum p d a.x a.y b.x b.y c.x c.y s → c ≡ sum p d a b
unfolding IsSum cross
sum-unique p d curve a b c a_is b_is c_is s sum_c =
    let e : ℕ = d * (a.x * b.x * (a.y * b.y)) in
    let t : ℕ = 1 + (p - e % p) in
    let c' : Affine = sum p d a b in
    let c'_is : IsPoint p d c' = sum-point p d curve a b a_is b_is in
    let sum' : IsSum p d a.x a.y b.x b.y c'.x c'.y t = sum-is p d curve a b a_is b_is in
    let turn_s : e + s ≡ s + e = omega arith in
    let turn_t : e + t ≡ t + e = omega arith in
    let same_s : s % p ≡ t % p = cancel-plus p e s t (ap (λ k. k % p) turn_s ∙ sum_c.0 ∙ sym sum'.0 ∙ ap (λ k. k % p) (sym turn_t)) in
    same-point p d c c' c_is c'_is
    (cancel p (1 + e) c.x c'.x curve.prime (plus-unit p d curve a b a_is b_is) (sum_c.1 ∙ sym sum'.1))
    (cancel p t c.y c'.y curve.prime (minus-unit p d curve a b a_is b_is)
    (same-times p t s c.y c.y (sym same_s) refl ∙ sum_c.2 ∙ sym sum'.2))

pub neutral-point : (p d : ℕ) → IsComplete p d → IsPoint p d neutral
neutral-point p d curve =
    record {
      x_low = positive-prime p curve.prime;
      y_low = above-one p curve.prime;
      on = ap (λ k. k % p) (omega arith);
    }

pub sum-neutral : (p d : ℕ) → IsComplete p d → (a : Affine) → IsPoint p d a → sum p d neutral a ≡ a
unfolding IsSum
sum-neutral p d curve a a_is =
    sym (sum-unique p d curve neutral a a (neutral-point p d curve) a_is a_is 1 (equations p d a.x a.y))
  where
    equations : (p d x y : ℕ) → IsSum p d 0 1 x y x y 1
    equations p d x y = (ap (λ k. k % p) (omega arith), ap (λ k. k % p) (omega arith), ap (λ k. k % p) (omega arith))

-- p - x is -x
pub opposite-number : (p x : ℕ) → x < p → ((p - x) % p + x) % p ≡ 0
opposite-number p x low =
    let back : p - x + x ≡ p = omega arith in
    same-plus p ((p - x) % p) (p - x) x x (mod-mod (p - x) p) refl ∙ ap (λ k. k % p) back ∙ mod_self p

square-opposite : (p x z : ℕ) → (z + x) % p ≡ 0 → (z * z) % p ≡ (x * x) % p
square-opposite p x z e =
    let left : x * z + z * z ≡ z * (z + x) = omega arith in
    let right : x * z + x * x ≡ x * (z + x) = omega arith in
    cancel-plus p (x * z) (z * z) (x * x)
    (ap (λ k. k % p) left ∙ times-multiple p z (z + x) e ∙ sym (times-multiple p x (z + x) e) ∙ ap (λ k. k % p) (sym right))

on-opposite : (p d x y z : ℕ) → (z + x) % p ≡ 0 → IsOn p d x y → IsOn p d z y
on-opposite p d x y z e on =
    let square : (x * x) % p ≡ (z * z) % p = sym (square-opposite p x z e) in
    on ∙ same-plus p (1 + x * x) (1 + z * z) (d * (x * x * (y * y))) (d * (z * z * (y * y)))
    (same-plus p 1 1 (x * x) (z * z) refl square)
    (same-times p d d (x * x * (y * y)) (z * z * (y * y)) refl (same-times p (x * x) (z * z) (y * y) (y * y) square refl))

pub opposite-point : (p d : ℕ) → IsComplete p d → (a : Affine) → IsPoint p d a → IsPoint p d (opposite p a)
unfolding opposite
opposite-point p d curve a a_is =
    record {
      x_low = mod-lt (p - a.x) (positive-prime p curve.prime);
      y_low = a_is.y_low;
      on = on-opposite p d a.x a.y ((p - a.x) % p) (opposite-number p a.x a_is.x_low) a_is.on;
    }

opposite-sum : (p d x y z s : ℕ) → (z + x) % p ≡ 0 → IsOn p d x y → (s + d * (z * x * (y * y))) % p ≡ 1 % p → IsSum p d z y x y 0 1 s
unfolding IsSum
opposite-sum p d x y z s e on s_is =
    let c : ℕ = d * (z * x * (y * y)) in
    let none : (1 + c) * 0 ≡ 0 = omega arith in
    let spread : y * (z + x) ≡ z * y + y * x = omega arith in
    let left : x * x + c + (y * y + z * x) ≡ x * (z + x) + (y * y + c) = omega arith in
    let right : c + (1 + x * x + d * (x * x * (y * y))) ≡ d * (x * (y * y)) * (z + x) + (1 + x * x) = omega arith in
    let turn_c : y * y + c ≡ c + y * y = omega arith in
    let turn_one : 1 + x * x ≡ x * x + 1 = omega arith in
    let turn_s : x * x + (s + c) ≡ x * x + c + s * 1 = omega arith in (
      s_is,
      ap (λ k. k % p) none ∙ zero-mod p ∙ sym (times-multiple p y (z + x) e) ∙ ap (λ k. k % p) spread,
      sym (cancel-plus p (x * x + c) (y * y + z * x) (s * 1)
          (ap (λ k. k % p) left ∙ without p (x * (z + x)) (y * y + c) (times-multiple p x (z + x) e)
          ∙ ap (λ k. k % p) turn_c ∙ same-plus p c c (y * y) (1 + x * x + d * (x * x * (y * y))) refl on
          ∙ ap (λ k. k % p) right ∙ without p (d * (x * (y * y)) * (z + x)) (1 + x * x) (times-multiple p (d * (x * (y * y))) (z + x) e)
          ∙ ap (λ k. k % p) turn_one ∙ sym (same-plus p (x * x) (x * x) (s + c) 1 refl s_is) ∙ ap (λ k. k % p) turn_s)),
    )

pub sum-opposite : (p d : ℕ) → IsComplete p d → (a : Affine) → IsPoint p d a → sum p d (opposite p a) a ≡ neutral
unfolding opposite
sum-opposite p d curve a a_is =
    let z : ℕ = (p - a.x) % p in
    let c : ℕ = d * (z * a.x * (a.y * a.y)) in
    sym (sum-unique p d curve (opposite p a) a neutral (opposite-point p d curve a a_is) a_is (neutral-point p d curve) (1 + (p - c % p))
    (opposite-sum p d a.x a.y z (1 + (p - c % p)) (opposite-number p a.x a_is.x_low) a_is.on (one-without p c (positive-prime p curve.prime))))

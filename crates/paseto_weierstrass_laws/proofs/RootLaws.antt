-- The curve has no point of order 2: x ^ 3 - 3 * x + b has no root. A root is one of x ^ (p - 1) - 1, whose rest modulo
-- the cubic is computed, and the two have no common factor.
use Rattle.std.proofs.Common.{◌≡◌, ◌≢◌, ℕ, zero, suc, ◌+◌, ◌-◌, ◌/◌, ◌%◌, ◌^◌, ◌<◌, inl, inr, [], ◌∷◌, refl, sym, ◌∙◌, ap, ap₂, arith, nat_eq, if◌then◌else◌, lit<, mod-lt, pow-suc, suc-ne-zero}
use Rattle.std.proofs.Math.Nat.{pow-zero}
use Rattle.paseto_primes.specs.Element.{minus as minus_modulo, plus as plus_modulo, times as times_modulo}
use Rattle.paseto_primes.specs.Polynomial.{Expression, constant, difference, product, sum}
use Rattle.paseto_weierstrass_laws.specs.Curve.{curve_b}
use Rattle.paseto_weierstrass_laws.specs.Field.{inverse, minus, plus, power, prime, times}
use Rattle.paseto_weierstrass_laws.specs.Group.{cubic}
use Rattle.paseto_weierstrass_laws.proofs.FieldLaws.{bit_cases, cube-zero, fermat, inverse-below, minus-below, plus-below, power_plus, power_suc, power_zero, times-below, zero_or_not}
use Rattle.paseto_weierstrass_laws.proofs.Formulas.{cubic_expr, summing}
use Rattle.paseto_weierstrass_laws.proofs.Identities.{equation, identity, minus_one, v0, v1, v2, v3}

-- a polynomial of degree 2
record Quadratic : Type 0 where
  c0 : ℕ
  c1 : ℕ
  c2 : ℕ

record IsReduced (q : Quadratic) : Type 0 where
  r0 : q.c0 < prime
  r1 : q.c1 < prime
  r2 : q.c2 < prime

unfoldable value_at : ℕ → Quadratic → ℕ
value_at t q = plus q.c0 (times t (plus q.c1 (times t q.c2)))

-- the square modulo the cubic
unfoldable squared : Quadratic → Quadratic
squared q =
    let cross = times q.c1 q.c2 in
    let third = plus cross cross in
    let fourth = times q.c2 q.c2 in
    let low = times q.c0 q.c1 in
    let mid = times q.c0 q.c2 in
    record {
      c0 = minus (times q.c0 q.c0) (times curve_b third);
      c1 = minus (plus (plus low low) (times 3 third)) (times curve_b fourth);
      c2 = plus (plus (plus mid mid) (times q.c1 q.c1)) (times 3 fourth);
    }

-- x times it
unfoldable shifted : Quadratic → Quadratic
shifted q = record { c0 = minus 0 (times curve_b q.c2); c1 = plus q.c0 (times 3 q.c2); c2 = q.c1 }

unfoldable step : ℕ → Quadratic → Quadratic
step bit q = if nat_eq bit 1 then shifted q else q

unfoldable one : Quadratic
one = record { c0 = 1; c1 = 0; c2 = 0 }

-- x ^ e modulo the cubic
unfoldable raised : ℕ → ℕ → Quadratic
raised zero e = one
raised (suc k) e = step (e % 2) (squared (raised k (e / 2)))

value_expr : Expression
value_expr = sum v1 (product v0 (sum v2 (product v0 v3)))

squared-reduced : (q : Quadratic) → IsReduced (squared q)
unfolding squared
squared-reduced q = record { r0 = minus-below _ _; r1 = minus-below _ _; r2 = plus-below _ _ }

shifted-reduced : (q : Quadratic) → IsReduced q → IsReduced (shifted q)
unfolding shifted
shifted-reduced q h = record { r0 = minus-below _ _; r1 = plus-below _ _; r2 = h.r1 }

squared-value : (t : ℕ) (q : Quadratic) → t < prime → IsReduced q → cubic t 1 ≡ 0 → value_at t (squared q) ≡ times (value_at t q) (value_at t q)
unfolding summing value_at squared value_expr
squared-value t q ht h root =
    let cross = product v2 v3 in
    let third = sum cross cross in
    let fourth = product v3 v3 in
    let low = product v1 v2 in
    let mid = product v1 v3 in
    let d0 = difference (product v1 v1) (product (constant curve_b) third) in
    let d1 = difference (sum (sum low low) (product (constant 3) third)) (product (constant curve_b) fourth) in
    let d2 = sum (sum (sum mid mid) (product v2 v2)) (product (constant 3) fourth) in
    identity 4 (t ∷ q.c0 ∷ q.c1 ∷ q.c2 ∷ []) (ht, (h.r0, (h.r1, (h.r2, tt))))
    (equation (product minus_one (sum third (product v0 fourth))) (cubic_expr v0 (constant 1)) (constant 0) ∷ []) (root, tt)
    (sum d0 (product v0 (sum d1 (product v0 d2)))) (product value_expr value_expr) refl

shifted-value : (t : ℕ) (q : Quadratic) → t < prime → IsReduced q → cubic t 1 ≡ 0 → value_at t (shifted q) ≡ times t (value_at t q)
unfolding summing value_at shifted value_expr
shifted-value t q ht h root =
    identity 4 (t ∷ q.c0 ∷ q.c1 ∷ q.c2 ∷ []) (ht, (h.r0, (h.r1, (h.r2, tt))))
    (equation (product minus_one v3) (cubic_expr v0 (constant 1)) (constant 0) ∷ []) (root, tt)
    (sum (difference (constant 0) (product (constant curve_b) v3)) (product v0 (sum (sum v1 (product (constant 3) v3)) (product v0 v2))))
    (product v0 value_expr) refl

one-value : (t : ℕ) → t < prime → value_at t one ≡ 1
unfolding summing value_at one
one-value t h =
    identity 1 (t ∷ []) (h, tt) [] tt
    (sum (constant 1) (product v0 (sum (constant 0) (product v0 (constant 0))))) (constant 1) refl

one-reduced : IsReduced one
unfolding one
one-reduced = record { r0 = lit< tt; r1 = lit< tt; r2 = lit< tt }

record Raised (t k e : ℕ) : Type 0 where
  reduced : IsReduced (raised k e)
  is : value_at t (raised k e) ≡ power t e

raised-power : (t k e : ℕ) → t < prime → cubic t 1 ≡ 0 → e < 2 ^ k → Raised t k e
unfolding raised step
raised-power t zero e ht root h =
    let none : e ≡ 0 = omega (arith, pow-zero 2) in
    record { reduced = one-reduced; is = rw none (one-value t ht ∙ sym (power_zero t)) }
raised-power t (suc k) e ht root h =
    let f : ℕ = e / 2 in
    let half = raised-power t k f ht root (omega (arith, pow-suc 2 k)) in
    let q = raised k f in
    let hs = squared-reduced q in
    let square = squared-value t q ht half.reduced root ∙ ap₂ times half.is half.is ∙ power_plus t f f in
    elim (bit_cases (e % 2) (mod-lt e (omega arith))) [
      | inl clear ↦
          let even : f + f ≡ e = omega arith in
          record { reduced = rw clear hs; is = rw clear (square ∙ ap (power t) even) }
      | inr set ↦
          let odd : suc (f + f) ≡ e = omega arith in
          record {
            reduced = rw set (shifted-reduced (squared q) hs);
            is = rw set (shifted-value t (squared q) ht hs root ∙ ap (times t) square ∙ power_suc t (f + f) ∙ ap (power t) odd);
          }
    ]

-- x ^ (p - 1) modulo the cubic
unfoldable last : Quadratic
last = record {
  c0 = 0x4e43ee44e906eb29e0bb78febf3260874c510894d9117572cc0044a8f20c7de4de6e134a228d0618c69d57e864a8366;
  c1 = 0x6508b289d6b5953a3b2be3f17d4be3bae9d2e22f4c35f2927ebba35f6a8389a8c8b6b1c1c8d50256abfd4d4b32b7131a;
  c2 = 0xa2a59dc05385e44677139b92772137b7110310160bca9ea91cb47a6ef0a150ea098d158bb8a77d42f8e230aaeff6c061;
}

computed : raised 384 (prime - 1) ≡ last
unfolding raised step squared shifted one last plus minus times plus_modulo minus_modulo times_modulo
computed = refl

last-power : (t : ℕ) → t < prime → t ≢ 0 → power t (prime - 1) ≡ 1
unfolding inverse
last-power t h nonzero = sym (power_suc t (prime - 2)) ∙ fermat t h nonzero

-- u * (x ^ 3 - 3 * x + b) + v * (x ^ (p - 1) - 1) is 1
coprime : (t : ℕ) → t < prime → cubic t 1 ≡ 0
    → value_at t last ≡ 1
    → ◌≡◌ {A = ℕ} 1 0
unfolding summing value_at last
coprime t h root one =
    let u = sum (constant 0x62ff11b0bf185362009a471fdf14264c79021a1c4062eddf7f2208fdde7dc6febdd0571c96fc77d220fbc56a88f50997) (product v0 (constant 0xa377ca39c4e9442270e7f9ebbb6385d8dcf90ae5957aaeed7c9996869bc877a01f526dbb9d8af00115a2632e864b93fd)) in
    let v = sum (constant 0xf0b586eab1ea95ad1b959d2ee058e9ce48594ef5fe5698fefbab6e4a6ebf4c790b3d01302c7ca3a16b1a8c7be4e745c7) (product v0 (sum (constant 0x82a4b07a8545eebd13546d7cba9d91955a4dca164f38e8ef11a16a0979239d79e07637d7b034eab1917b39d55e4f0331) (product v0 (constant 0x3581b884702fb0931c541a5cacefbe3bea864db86e01e048170560418dca3aa8689f246d9d11ccd2e145532dd48491af)))) in
    identity 1 (t ∷ []) (h, tt)
    (equation u (cubic_expr v0 (constant 1)) (constant 0)
    ∷ equation v (sum (constant 0x4e43ee44e906eb29e0bb78febf3260874c510894d9117572cc0044a8f20c7de4de6e134a228d0618c69d57e864a8366) (product v0 (sum (constant 0x6508b289d6b5953a3b2be3f17d4be3bae9d2e22f4c35f2927ebba35f6a8389a8c8b6b1c1c8d50256abfd4d4b32b7131a) (product v0 (constant 0xa2a59dc05385e44677139b92772137b7110310160bca9ea91cb47a6ef0a150ea098d158bb8a77d42f8e230aaeff6c061))))) (constant 1)
    ∷ []) (root, (one, tt)) (constant 1) (constant 0) refl

zero-value : cubic 0 1 ≡ curve_b
unfolding summing
zero-value = refl

pub no-root : (t : ℕ) → t < prime → cubic t 1 ≢ 0
no-root t h root = elim (zero_or_not t) [
  | inl none ↦ suc-ne-zero _ (sym zero-value ∙ ap (λ w. cubic w 1) (sym none) ∙ root)
  | inr some ↦
      let r = raised-power t 384 (prime - 1) h root (lit< tt) in
      let is_one : value_at t (raised 384 (prime - 1)) ≡ 1 = r.is ∙ last-power t h some in
      suc-ne-zero 0 (coprime t h root (sym (ap (value_at t) computed) ∙ is_one))
]

-- the curve has no point of order 2
quotient_root : (x z i : ℕ) → x < prime → z < prime → i < prime → times z i ≡ 1 → cubic x z ≡ 0 → cubic (times x i) 1 ≡ 0
unfolding summing
quotient_root x z i hx hz hi inv h =
    let zi = product v1 v2 in
    identity 3 (x ∷ z ∷ i ∷ []) (hx, (hz, (hi, tt)))
    (equation (difference (product (product (constant 3) (product v0 v2)) (sum zi (constant 1))) (product (constant curve_b) (sum (product zi zi) (sum zi (constant 1))))) zi (constant 1)
    ∷ equation (product v2 (product v2 v2)) (cubic_expr v0 v1) (constant 0)
    ∷ [])
    (inv, (h, tt)) (cubic_expr (product v0 v2) (constant 1)) (constant 0) refl

pub cube_of_cubic : (x : ℕ) → x < prime → cubic x 0 ≡ times (times x x) x
unfolding summing
cube_of_cubic x h = identity 1 (x ∷ []) (h, tt) [] tt (cubic_expr v0 (constant 0)) (product (product v0 v0) v0) refl

pub cubic-zero : (x z : ℕ) → x < prime → z < prime → cubic x z ≡ 0 → (x ≡ 0) × (z ≡ 0)
cubic-zero x z hx hz h = elim (zero_or_not z) [
  | inl none ↦ (cube-zero x hx (sym (cube_of_cubic x hx) ∙ ap (cubic x) (sym none) ∙ h), none)
  | inr some ↦ absurd (no-root (times x (inverse z)) (times-below x (inverse z))
      (quotient_root x z (inverse z) hx hz (inverse-below z) (fermat z hz some) h))
]

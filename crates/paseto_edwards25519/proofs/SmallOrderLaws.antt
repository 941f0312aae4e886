-- The points of small order are those whose double has a coordinate 0.
use Rattle.std.proofs.Common.{◌≡◌, ◌≢◌, ◌⊎◌, ◌↔◌, ℕ, ◌+◌, ◌-◌, ◌*◌, ◌%◌, ◌<◌, inl, inr, refl, sym, ◌∙◌, ap, arith, mod-eq_of_lt}
use Rattle.std.proofs.Math.Nat.{mod-mod}
use Rattle.paseto_primes.proofs.CongruenceLaws.{other}
use Rattle.paseto_primes.proofs.DivisorLaws.{euclid, multiple-times, times-multiple}
use Rattle.paseto_primes.proofs.FieldOfEdwards25519.{is-prime}
use Rattle.paseto_edwards_laws.specs.Edwards25519.{d, prime}
use Rattle.paseto_edwards_laws.specs.Group.{Affine, cross, neutral, opposite as opposite_of}
use Rattle.paseto_edwards_laws.proofs.CurveLaws.{curve}
use Rattle.paseto_edwards_laws.proofs.GroupLaws.{plus-unit, sum-first, sum-neutral, sum-opposite}
use Rattle.paseto_edwards_laws.proofs.MultipleLaws.{neutral-sum}
use Rattle.paseto_edwards25519.specs.Curve.{HasSmallOrder, IsPoint, multiple, opposite, sum}
use Rattle.paseto_edwards25519.specs.Extended.{IsExtended, affine, factored}
use Rattle.paseto_edwards25519.specs.Field.{times}
use Rattle.paseto_edwards25519.proofs.CurveLaws.{associative, multiple-once, opposite-is_point, sum-is_point}
use Rattle.paseto_edwards25519.proofs.MultipleLaws.{multiple-twice}

-- a product is 0 where a factor is
zero-product : (a b : ℕ) → a < prime → b < prime → (a * b) % prime ≡ 0 → (a ≡ 0) ⊎ (b ≡ 0)
zero-product a b a_low b_low e = elim (euclid prime a b is-prime e) [
  | inl none ↦ inl (sym (mod-eq_of_lt a_low) ∙ none)
  | inr none ↦ inr (sym (mod-eq_of_lt b_low) ∙ none)
]

zero-other : (a b : ℕ) → a % prime ≢ 0 → b < prime → (a * b) % prime ≡ 0 → b ≡ 0
zero-other a b unit b_low e = sym (mod-eq_of_lt b_low) ∙ other prime a b is-prime unit e

-- a point that is its own opposite
own-opposite : (c : Affine) → IsPoint c → sum c c ≡ neutral → opposite c ≡ c
own-opposite c point e =
    let o_is : IsPoint (opposite c) = opposite-is_point c point in
    sym (neutral-sum prime d curve (opposite c) o_is) ∙ ap (λ q. sum (opposite c) q) (sym e)
    ∙ sym (associative (opposite c) c c o_is point point)
    ∙ ap (λ q. sum q c) (sum-opposite prime d curve c point) ∙ sum-neutral prime d curve c point

-- the points whose double is neutral
half-neutral : (c : Affine) → IsPoint c → sum c c ≡ neutral → c.x ≡ 0
unfolding opposite_of
half-neutral c point e =
    let same : (prime - c.x) % prime ≡ c.x = ap (λ q. q.x) (own-opposite c point e) in
    omega (arith, same, point.x_low)

neutral-half : (c : Affine) → IsPoint c → c.x ≡ 0 → sum c c ≡ neutral
unfolding opposite_of
neutral-half c point none =
    let same : (prime - c.x) % prime ≡ c.x = omega (arith, none) in
    let whole : opposite c ≡ c = ap (λ x. at x c.y) same in
    ap (λ q. sum q c) (sym whole) ∙ sum-opposite prime d curve c point
  where
    at : ℕ → ℕ → Affine
    at x y = record { x = x; y = y }

-- the points whose double is its own opposite
half-first : (c : Affine) → IsPoint c → (sum c c).x ≡ 0 → (c.x ≡ 0) ⊎ (c.y ≡ 0)
half-first c point none =
    let unit : ℕ = 1 + cross d c c in
    let nothing : unit * 0 ≡ 0 = omega arith in
    let twice : c.x * c.y + c.y * c.x ≡ 2 * (c.x * c.y) = omega arith in
    let product : (2 * (c.x * c.y)) % prime ≡ 0 =
    ap (λ n. n % prime) (sym twice) ∙ sym (sum-first prime d curve c c point point)
    ∙ ap (λ n. (unit * n) % prime) none ∙ ap (λ n. n % prime) nothing in
    zero-product c.x c.y point.x_low point.y_low (other prime 2 (c.x * c.y) is-prime (λ e. absurd (omega (arith, e))) product)

first-half : (c : Affine) → IsPoint c → (c.x ≡ 0) ⊎ (c.y ≡ 0) → (sum c c).x ≡ 0
first-half c point none =
    let twice : c.x * c.y + c.y * c.x ≡ 0 = elim none [ inl e ↦ first e | inr e ↦ second e ] in
    zero-other (1 + cross d c c) (sum c c).x (plus-unit prime d curve c c point point) (sum-is_point c c point point).x_low
    (sum-first prime d curve c c point point ∙ ap (λ n. n % prime) twice)
  where
    first : c.x ≡ 0 → c.x * c.y + c.y * c.x ≡ 0
    first e = rw e (omega arith)

    second : c.y ≡ 0 → c.x * c.y + c.y * c.x ≡ 0
    second e = rw e (omega arith)

-- the multiple by 8
eight_times : (a : Affine) → IsPoint a → let b = sum a a in let c = sum b b in sum c c ≡ multiple 8 a
eight_times a point =
    multiple-twice 4 a _ _ point refl (multiple-twice 2 a _ _ point refl (multiple-twice 1 a _ _ point refl (sym (multiple-once a point))))

pub small-has_zero : (a b : Affine) → IsPoint a → b ≡ sum a a → HasSmallOrder a → (b.x ≡ 0) ⊎ (b.y ≡ 0)
small-has_zero a b point b_is small =
    let s_is = sum-is_point a a point point in
    let c_is = sum-is_point (sum a a) (sum a a) s_is s_is in
    rw b_is (half-first (sum a a) s_is (half-neutral (sum (sum a a) (sum a a)) c_is (eight_times a point ∙ small)))

pub zero-is_small : (a b : Affine) → IsPoint a → b ≡ sum a a → (b.x ≡ 0) ⊎ (b.y ≡ 0) → HasSmallOrder a
zero-is_small a b point b_is none =
    let s_is = sum-is_point a a point point in
    let c_is = sum-is_point (sum a a) (sum a a) s_is s_is in
    let zero : ((sum a a).x ≡ 0) ⊎ ((sum a a).y ≡ 0) = rw (← b_is) none in
    sym (eight_times a point) ∙ neutral-half (sum (sum a a) (sum a a)) c_is (first-half (sum a a) s_is zero)

-- ---- the coordinates of a double before its last products

-- a = k * l / z
quotient-zero : (k l a z : ℕ) → k < prime → a < prime → l % prime ≢ 0 → z % prime ≢ 0 → (k * l) % prime ≡ (a * z) % prime
    → (a ≡ 0) ↔ (k ≡ 0)
quotient-zero k l a z k_low a_low l_unit z_unit e = (
  (λ none.
      let nothing : 0 * z ≡ 0 = omega arith in
      let turned : l * k ≡ k * l = omega arith in
      zero-other l k l_unit k_low
      (ap (λ n. n % prime) turned ∙ e ∙ ap (λ n. (n * z) % prime) none ∙ ap (λ n. n % prime) nothing)),
  (λ none.
      let nothing : 0 * l ≡ 0 = omega arith in
      let turned : z * a ≡ a * z = omega arith in
      zero-other z a z_unit a_low
      (ap (λ n. n % prime) turned ∙ sym e ∙ ap (λ n. (n * l) % prime) none ∙ ap (λ n. n % prime) nothing)),
)

first-lost : (f g : ℕ) → f % prime ≡ 0 → f * g % prime % prime ≡ 0
first-lost f g zero = mod-mod (f * g) prime ∙ multiple-times prime f g zero

second-lost : (f g : ℕ) → g % prime ≡ 0 → f * g % prime % prime ≡ 0
second-lost f g zero = mod-mod (f * g) prime ∙ times-multiple prime f g zero

pub zero-first : (e f g h : ℕ) → e < prime → IsExtended (factored e f g h) → ((affine (factored e f g h)).x ≡ 0) ↔ (e ≡ 0)
unfolding times
zero-first e f g h low q_is =
    quotient-zero e f (affine (factored e f g h)).x (f * g % prime) low q_is.point.x_low (λ zero. q_is.unit (first-lost f g zero)) q_is.unit
    (sym (mod-mod (e * f) prime) ∙ q_is.x_is)

pub zero-second : (e f g h : ℕ) → h < prime → IsExtended (factored e f g h) → ((affine (factored e f g h)).y ≡ 0) ↔ (h ≡ 0)
unfolding times
zero-second e f g h low q_is =
    let turned : h * g ≡ g * h = omega arith in
    quotient-zero h g (affine (factored e f g h)).y (f * g % prime) low q_is.point.y_low (λ zero. q_is.unit (second-lost f g zero)) q_is.unit
    (ap (λ n. n % prime) turned ∙ sym (mod-mod (g * h) prime) ∙ q_is.y_is)

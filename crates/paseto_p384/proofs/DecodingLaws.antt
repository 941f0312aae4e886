-- A public key is decoded to its point.
use Rattle.std.proofs.Common.{◌≡◌, ◌≢◌, ℕ, suc, ◌+◌, ◌*◌, ◌-◌, ◌/◌, ◌%◌, ◌^◌, ◌<◌, ◌≤◌, ◌⊎◌, inl, inr, List, [], ◌∷◌, refl, sym, ◌∙◌, ap, ap₂, subst, arith, mod-eq_of_lt, pow-add, suc-ne-zero}
use Rattle.std.specs.Prelude.{Some, drop, slice_index}
use Rattle.std.proofs.lemmas.Bool.{cases_eq, cases_lt}
use Rattle.std.proofs.lemmas.Nat.{mul-pow, pow-mod}
use Rattle.paseto_montgomery.specs.Octets.{i2osp, os2ip}
use Rattle.paseto_montgomery.proofs.OctetsLaws.{os2ip-i2osp}
use Rattle.paseto_primes.specs.Element.{minus as minus_modulo, times as times_modulo}
use Rattle.paseto_primes.specs.Polynomial.{constant, difference, product, sum}
use Rattle.paseto_weierstrass_laws.specs.Curve.{curve_b, order}
use Rattle.paseto_weierstrass_laws.specs.Field.{inverse, minus, plus, power, prime, times}
use Rattle.paseto_weierstrass_laws.specs.Group.{IsPoint, Same, cubic}
use Rattle.paseto_weierstrass_laws.specs.Multiples.{IsMultiple, multiple_of}
use Rattle.paseto_weierstrass_laws.specs.Point.{Point, base}
use Rattle.paseto_weierstrass_laws.proofs.FieldLaws.{fermat, inverse-below, inverse-ne-zero, minus-below, plus-below, power-below, power_plus, power_suc, times-below, times-zero, times_comm, times_unit, zero_or_not}
use Rattle.paseto_weierstrass_laws.proofs.Formulas.{cubic_expr, summing, triple_expr}
use Rattle.paseto_weierstrass_laws.proofs.Identities.{equation, identity, v0, v1}
use Rattle.paseto_weierstrass_laws.proofs.MultipleLaws.{multiple-itself, multiple-of_same}
use Rattle.paseto_weierstrass_laws.proofs.OrderLaws.{multiple-finite}
use Rattle.paseto_weierstrass_laws.proofs.Plane.{IsPlane, plane_point}
use Rattle.paseto_weierstrass_laws.proofs.PointLaws.{base-is_point, plane-is_point, plane_curve}
use Rattle.paseto_weierstrass_laws.proofs.PointOrders.{opposite-plane}
use Rattle.paseto_weierstrass_laws.proofs.SumLaws.{y-some}
use Rattle.paseto_p384.specs.Encoding.{decoded, encoded, point_at, right_side, signed}
use Rattle.paseto_p384.proofs.OptionLaws.{none-some, some-same}
use Rattle.paseto_p384.proofs.EncodingLaws.{decoded-above, decoded-at, decoded-first, encoded-is, point_at-none, point_at-some, signed-other, signed-same}

-- the square root by a power
power_square : (w k : ℕ) → power (times w w) k ≡ power w (k + k)
unfolding times power times_modulo
power_square w k = pow-mod (w * w) k prime ∙ ap (λ y. y % prime) (mul-pow w w k ∙ sym (pow-add w k k))

root-square : (y : ℕ) → y < prime → y ≢ 0 → times (power (times y y) ((prime + 1) / 4)) (power (times y y) ((prime + 1) / 4)) ≡ times y y
unfolding inverse
root-square y h nonzero =
    let k : ℕ = (prime + 1) / 4 in
    let last : power y (prime - 1) ≡ 1 = sym (power_suc y (prime - 2)) ∙ fermat y h nonzero in
    let long : k + k + (k + k) ≡ suc (suc (prime - 1)) = omega arith in
    let short = sym (power_suc y (suc (prime - 1))) ∙ ap (times y) (sym (power_suc y (prime - 1)) ∙ ap (times y) last) in
    ap₂ times (power_square y k) (power_square y k) ∙ power_plus y (k + k) (k + k) ∙ ap (power y) long ∙ short ∙ ap (times y) (one_times y h)
  where
    one_times : (a : ℕ) → a < prime → times a 1 ≡ a
    one_times a h = sym (times_unit a h)

factored : (r y : ℕ) → r < prime → y < prime → times r r ≡ times y y → times (minus r y) (plus r y) ≡ 0
unfolding summing
factored r y hr hy h =
    identity 2 (r ∷ y ∷ []) (hr, (hy, tt))
    (equation (constant 1) (product v0 v0) (product v1 v1) ∷ []) (h, tt)
    (product (difference v0 v1) (sum v0 v1)) (constant 0) refl

of_difference : (r y : ℕ) → r < prime → y < prime → minus r y ≡ 0 → r ≡ y
unfolding summing
of_difference r y hr hy h =
    identity 2 (r ∷ y ∷ []) (hr, (hy, tt))
    (equation (constant 1) (difference v0 v1) (constant 0) ∷ []) (h, tt) v0 v1 refl

of_sum : (r y : ℕ) → r < prime → y < prime → plus r y ≡ 0 → y ≡ minus 0 r
unfolding summing
of_sum r y hr hy h =
    identity 2 (r ∷ y ∷ []) (hr, (hy, tt))
    (equation (constant 1) (sum v0 v1) (constant 0) ∷ []) (h, tt) v1 (difference (constant 0) v0) refl

equal_squares : (r y : ℕ) → r < prime → y < prime → times r r ≡ times y y → (r ≡ y) ⊎ (y ≡ minus 0 r)
equal_squares r y hr hy h = elim (zero_or_not (minus r y)) [
  | inl e ↦ inl (of_difference r y hr hy e)
  | inr n ↦ inr (of_sum r y hr hy (times-zero (minus r y) (plus r y) (minus-below r y) (plus-below r y) n (factored r y hr hy h)))
]

-- the opposite has the other parity
opposite-parity : (r y : ℕ) → r < prime → y < prime → y ≢ 0 → y ≡ minus 0 r → r % 2 ≢ y % 2
unfolding minus minus_modulo
opposite-parity r y hr hy nonzero e h = elim (zero_or_not r) [
  | inl none ↦
      let whole : (0 + (prime - 0)) % prime ≡ 0 = refl in
      nonzero (e ∙ ap (λ w. (0 + (prime - w)) % prime) none ∙ whole)
  | inr some ↦
      let low : 0 + (prime - r) < prime = omega arith in
      let y_is : y ≡ 0 + (prime - r) = e ∙ mod-eq_of_lt low in
      absurd (omega arith)
]

root-signed : (r y : ℕ) → r < prime → y < prime → y ≢ 0 → times r r ≡ times y y → signed (y % 2) r ≡ y
root-signed r y hr hy nonzero h = elim (equal_squares r y hr hy h) [
  | inl e ↦ sym (signed-same (y % 2) r (ap (λ w. w % 2) e)) ∙ e
  | inr e ↦ sym (signed-other (y % 2) r (opposite-parity r y hr hy nonzero e)) ∙ sym e
]

plane_right : (x y : ℕ) → x < prime → y < prime → times (times y y) 1 ≡ cubic x 1 → times y y ≡ right_side x
unfolding summing right_side
plane_right x y hx hy h =
    identity 2 (x ∷ y ∷ []) (hx, (hy, tt))
    (equation (constant 1) (product (product v1 v1) (constant 1)) (cubic_expr v0 (constant 1)) ∷ []) (h, tt)
    (product v1 v1) (sum (difference (product (product v0 v0) v0) (triple_expr v0)) (constant curve_b)) refl

-- a point of the plane is decoded from its encoding
pub decoded-plane : (x y : ℕ) → IsPlane x y → decoded ((2 + y % 2) ∷ i2osp x 48) ≡ Some (plane_point x y)
decoded-plane x y h =
    let octets : List ℕ = (2 + y % 2) ∷ i2osp x 48 in
    let y_some = y-some (plane_point x y) (plane-is_point x y h) in
    let right = plane_right x y h.x_below h.y_below h.on_curve in
    let k : ℕ = (prime + 1) / 4 in
    let root = power (times y y) k in
    let square = root-square y h.y_below y_some in
    let found = point_at-some (y % 2) x root (ap (λ w. power w k) right) (square ∙ right) in
    let small : x < 256 ^ 48 = omega (arith, h.x_below) in
    let x_is : x ≡ os2ip (i2osp x 48) = sym (os2ip-i2osp x 48 ∙ mod-eq_of_lt small) in
    let first : (2 + y % 2) / 2 ≡ 1 = omega arith in
    let parity : (2 + y % 2) % 2 ≡ y % 2 = omega arith in
    let point : Some (record { x = x; y = signed (y % 2) root; z = 1 }) ≡ Some (plane_point x y) =
    ap (λ w. Some (plane_point x w)) (root-signed root y (power-below (times y y) k) h.y_below y_some square) in
    sym (decoded-at octets x first x_is h.x_below) ∙ ap (λ w. point_at w x) parity ∙ sym found ∙ point

-- the public key of d is decoded to a point that is [d]G
pub record IsKey (d : ℕ) : Type 0 where
  pub point : Point
  pub is_decoded : decoded (encoded (multiple_of d base)) ≡ Some point
  pub multiple : IsMultiple base point d

plane_curve_of : (x y z i : ℕ) → x < prime → y < prime → z < prime → i < prime → times z i ≡ 1 → times (times y y) z ≡ cubic x z
    → IsPlane (times x i) (times y i)
plane_curve_of x y z i hx hy hz hi inv h = record {
  x_below = times-below x i;
  y_below = times-below y i;
  on_curve = plane_curve x y z i hx hy hz hi inv h;
}

pub decoded-public : (d : ℕ) → d < order → d ≢ 0 → IsKey d
decoded-public d below nonzero =
    let p = multiple_of d base in
    let m = multiple-itself d base base-is_point in
    let h = m.point in
    let some = multiple-finite p d m (λ z. nonzero (sym (mod-eq_of_lt below) ∙ z)) in
    let i = inverse p.z in
    let inv = fermat p.z h.z_below some in
    let x = times p.x i in
    let y = times p.y i in
    let on = plane_curve_of p.x p.y p.z i h.x_below h.y_below h.z_below (inverse-below p.z) inv h.on_curve in
    let same : Same p (plane_point x y) = record {
      ratio = i;
      below = inverse-below p.z;
      nonzero = inverse-ne-zero p.z h.z_below some;
      x = times_comm p.x i h.x_below (inverse-below p.z);
      y = times_comm p.y i h.y_below (inverse-below p.z);
      z = sym (times_comm i p.z (inverse-below p.z) h.z_below ∙ inv);
    } in
    record {
      point = plane_point x y;
      is_decoded = ap decoded (sym (encoded-is p x y i refl refl refl)) ∙ decoded-plane x y on;
      multiple = multiple-of_same base p (plane_point x y) d base-is_point m same;
    }

-- ---- what is decoded is a point

root-plane : (x y : ℕ) → x < prime → y < prime → times y y ≡ right_side x → IsPlane x y
unfolding summing right_side
root-plane x y hx hy h = record {
  x_below = hx;
  y_below = hy;
  on_curve = identity 2 (x ∷ y ∷ []) (hx, (hy, tt))
      (equation (constant 1) (product v1 v1) (sum (difference (product (product v0 v0) v0) (triple_expr v0)) (constant curve_b)) ∷ []) (h, tt)
      (product (product v1 v1) (constant 1)) (cubic_expr v0 (constant 1)) refl;
}

signed-plane : (odd x y : ℕ) → IsPlane x y → IsPlane x (signed odd y)
signed-plane odd x y h = elim (cases_eq (y % 2) odd) [
  | inl same ↦ subst (IsPlane x) (signed-same odd y same) h
  | inr apart ↦ subst (IsPlane x) (signed-other odd y apart) (opposite-plane x y h)
]

point_at-is_point : (odd x : ℕ) (q : Point) → x < prime → point_at odd x ≡ Some q → IsPoint q
point_at-is_point odd x q low e =
    let y = power (right_side x) ((prime + 1) / 4) in
    elim (cases_eq (times y y) (right_side x)) [
      | inl root ↦
          let on = signed-plane odd x y (root-plane x y low (power-below _ _) root) in
          subst IsPoint (some-same (plane_point x (signed odd y)) q (point_at-some odd x y refl root ∙ e)) (plane-is_point x (signed odd y) on)
      | inr apart ↦ absurd (none-some q (point_at-none odd x y refl apart ∙ e))
    ]

pub decoded-is_point : (octets : List ℕ) (q : Point) → decoded octets ≡ Some q → IsPoint q
decoded-is_point octets q e =
    let first : ℕ = slice_index octets 0 in
    let x = os2ip (drop 1 octets) in
    elim (cases_eq (first / 2) 1) [
      | inr other ↦ absurd (none-some q (decoded-first octets other ∙ e))
      | inl two ↦ elim (cases_lt x prime) [
        | inr above ↦ absurd (none-some q (decoded-above octets x two refl above ∙ e))
        | inl low ↦ point_at-is_point (first % 2) x q low (decoded-at octets x two refl low ∙ e)
      ]
    ]

-- and not the point at infinity
point_at-finite : (odd x : ℕ) (q : Point) → point_at odd x ≡ Some q → q.z ≢ 0
point_at-finite odd x q e none =
    let y = power (right_side x) ((prime + 1) / 4) in
    elim (cases_eq (times y y) (right_side x)) [
      | inl root ↦
          let is : plane_point x (signed odd y) ≡ q = some-same (plane_point x (signed odd y)) q (point_at-some odd x y refl root ∙ e) in
          suc-ne-zero 0 (ap (λ p. p.z) is ∙ none)
      | inr apart ↦ none-some q (point_at-none odd x y refl apart ∙ e)
    ]

pub decoded-finite : (octets : List ℕ) (q : Point) → decoded octets ≡ Some q → q.z ≢ 0
decoded-finite octets q e =
    let first : ℕ = slice_index octets 0 in
    let x = os2ip (drop 1 octets) in
    elim (cases_eq (first / 2) 1) [
      | inr other ↦ absurd (none-some q (decoded-first octets other ∙ e))
      | inl two ↦ elim (cases_lt x prime) [
        | inr above ↦ absurd (none-some q (decoded-above octets x two refl above ∙ e))
        | inl low ↦ point_at-finite (first % 2) x q (decoded-at octets x two refl low ∙ e)
      ]
    ]

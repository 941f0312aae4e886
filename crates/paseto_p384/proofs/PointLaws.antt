-- The formulas of sums and doubles.
use Rattle.std.proofs.Common.{◌≡◌, ◌≢◌, ℕ, ◌*◌, ◌<◌, inl, inr, [], ◌∷◌, refl, subst, arith}
use Rattle.paseto_primes.specs.Polynomial.{constant, difference, product, sum}
use Rattle.paseto_weierstrass_laws.specs.Field.{minus, plus, prime, times, triple}
use Rattle.paseto_weierstrass_laws.specs.Group.{IsPoint, Same}
use Rattle.paseto_weierstrass_laws.specs.Multiples.{IsMultiple}
use Rattle.paseto_weierstrass_laws.specs.Point.{Point, cross, point_double}
use Rattle.paseto_weierstrass_laws.proofs.FieldLaws.{bit_cases, times-below, times-ne-zero}
use Rattle.paseto_weierstrass_laws.proofs.Formulas.{ExpressionPoint, cross_expr, double_expr, first, identity-on_curve, one-below, one-obeys, one_point, summing, triple_expr}
use Rattle.paseto_weierstrass_laws.proofs.Identities.{identity, v0, v1, v2}
use Rattle.paseto_weierstrass_laws.proofs.MultipleLaws.{multiple-double, multiple-of_same}

-- a product across, where the other point's Z is 1
pub cross-unit : (a c z : ℕ) → a < prime → c < prime → z < prime → plus (times c z) a ≡ cross a z c 1 (times a c) (times z 1)
unfolding summing
cross-unit a c z ha hc hz =
    identity 3 (a ∷ c ∷ z ∷ []) (ha, (hc, (hz, tt))) [] tt (sum (product v1 v2) v0)
    (cross_expr v0 v2 v1 (constant 1) (product v0 v1) (product v2 (constant 1))) refl

-- the double where Z is not 0
unfoldable pub double_finite : Point → Point
double_finite p =
    let slope = triple (times (minus p.x p.z) (plus p.x p.z)) in
    let yz = times p.y p.z in
    let s = plus yz yz in
    let r = times p.y s in
    let xr = times p.x r in
    let both = plus xr xr in
    let rr = times r r in
    let h = minus (times slope slope) (plus both both) in
    record {
      x = times h s;
      y = minus (times slope (minus both h)) (plus rr rr);
      z = times s (times s s);
    }

unfoldable finite_expr : ExpressionPoint → ExpressionPoint
finite_expr p =
    let slope = triple_expr (product (difference p.x p.z) (sum p.x p.z)) in
    let yz = product p.y p.z in
    let s = sum yz yz in
    let r = product p.y s in
    let xr = product p.x r in
    let both = sum xr xr in
    let rr = product r r in
    let h = difference (product slope slope) (sum both both) in
    record {
      x = product h s;
      y = difference (product slope (difference both h)) (sum rr rr);
      z = product s (product s s);
    }

pub double-finite : (p : Point) → IsPoint p → p.z ≢ 0 → Same (point_double p) (double_finite p)
unfolding summing double_finite finite_expr
double-finite p h some =
    let d = double_expr first in
    let f = finite_expr first in
    let xs = one_point p [] in
    let below = one-below [] h tt in
    let on = one-obeys p h in
    record {
      ratio = times p.z p.z;
      below = times-below p.z p.z;
      nonzero = times-ne-zero p.z p.z h.z_below h.z_below some some;
      x = identity-on_curve 3 xs below on [] tt f.x (product (product v0 v0) d.x) refl;
      y = identity-on_curve 3 xs below on [] tt f.y (product (product v0 v0) d.y) refl;
      z = identity-on_curve 3 xs below on [] tt f.z (product (product v0 v0) d.z) refl;
    }

-- sixteen times a multiple, by four doubles
pub sixteen-times : (g p q r s t : Point) (n : ℕ) → IsPoint g → IsMultiple g p n → Same (point_double p) q → Same (point_double q) r
    → Same (point_double r) s → Same (point_double s) t → IsMultiple g t (16 * n)
sixteen-times g p q r s t n hg h e f k l =
    let twice = multiple-of_same g (point_double p) q (2 * n) hg (multiple-double g p n hg h) e in
    let four_times = multiple-of_same g (point_double q) r (2 * (2 * n)) hg (multiple-double g q (2 * n) hg twice) f in
    let eight_times = multiple-of_same g (point_double r) s (2 * (2 * (2 * n))) hg (multiple-double g r (2 * (2 * n)) hg four_times) k in
    let all = multiple-of_same g (point_double s) t (2 * (2 * (2 * (2 * n)))) hg (multiple-double g s (2 * (2 * (2 * n))) hg eight_times) l in
    let whole : 2 * (2 * (2 * (2 * n))) ≡ 16 * n = omega arith in
    subst (IsMultiple g t) whole all

-- a bit that is not 0
pub not-none : (a : ℕ) → a < 2 → (a ≡ 0 → ⊥) → a ≡ 1
not-none a h k = elim (bit_cases a h) [
  | inl none ↦ absurd (k none)
  | inr one ↦ one
]

pub sixteen-doubles : (g p : Point) (n : ℕ) → IsPoint g → IsMultiple g p n
    → IsMultiple g (point_double (point_double (point_double (point_double p)))) (16 * n)
sixteen-doubles g p n hg h =
    let p2 = point_double p in
    let p4 = point_double p2 in
    let p8 = point_double p4 in
    let whole : 2 * (2 * (2 * (2 * n))) ≡ 16 * n = omega arith in
    subst (IsMultiple g (point_double p8)) whole
    (multiple-double g p8 (2 * (2 * (2 * n))) hg (multiple-double g p4 (2 * (2 * n)) hg (multiple-double g p2 (2 * n) hg (multiple-double g p n hg h))))

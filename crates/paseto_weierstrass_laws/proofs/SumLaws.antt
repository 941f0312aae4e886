-- Sums are points of the curve, and the same for the same points.
use Rattle.std.proofs.Common.{◌≡◌, ◌≢◌, ℕ, ◌<◌, List, [], ◌∷◌, refl, lit<}
use Rattle.paseto_primes.specs.Polynomial.{Expression, constant, product}
use Rattle.paseto_primes.specs.Program.{listed, run_elements, run_polynomials}
use Rattle.paseto_primes.proofs.ElementLaws.{AreListedBelow}
use Rattle.paseto_primes.proofs.ProgramLaws.{after-program, agree-run}
use Rattle.paseto_weierstrass_laws.specs.Field.{prime, times}
use Rattle.paseto_weierstrass_laws.specs.Group.{IsPoint, Same, cubic}
use Rattle.paseto_weierstrass_laws.specs.Point.{Point, neutral, point_add, point_double}
use Rattle.paseto_weierstrass_laws.proofs.CompletenessLaws.{sum-some}
use Rattle.paseto_weierstrass_laws.proofs.FieldLaws.{minus-below, plus-below, times-below, times-ne-zero}
use Rattle.paseto_weierstrass_laws.proofs.Formulas.{ExpressionPoint, add_expr, cubic_expr, double_expr, first, identity-on_curve, one-below, one-obeys, one_point, plane, second, summing, two-below, two_points}
use Rattle.paseto_weierstrass_laws.proofs.Identities.{equation, identity, minus_one, v0, v1, v2, v4, v5, v6}
use Rattle.paseto_weierstrass_laws.proofs.Plane.{IsPlane, plane_expr, plane_point, two, two-obey, two-start, two_variables}
use Rattle.paseto_weierstrass_laws.proofs.PointLaws.{at_infinity, in_plane, kind, neutral-is_point, plane-is_point, same-is_point, same_trans}
use Rattle.paseto_weierstrass_laws.proofs.RootLaws.{cubic-zero}

-- p + q = q + p
pub sum_comm : (p q : Point) → IsPoint p → IsPoint q → point_add p q ≡ point_add q p
unfolding summing
sum_comm p q hp hq =
    let there = add_expr first second in
    let back = add_expr second first in
    let xs = two_points p q in
    let below = two-below hp hq in
    let x = identity 6 xs below [] tt there.x back.x refl in
    let y = identity 6 xs below [] tt there.y back.y refl in
    let z = identity 6 xs below [] tt there.z back.z refl in
    λ i. record { x = x i; y = y i; z = z i }

-- the same points have the same sums with a third
scaled : ℕ → Point → Point
scaled r p = record { x = times r p.x; y = times r p.y; z = times r p.z }

scaled_expr : ExpressionPoint
scaled_expr = record { x = product v6 v2; y = product v6 v1; z = product v6 v0 }

is_scaled : {p q : Point} (s : Same p q) → q ≡ scaled s.ratio p
unfolding scaled
is_scaled s i = record { x = s.x i; y = s.y i; z = s.z i }

scaled_sum : (p q : Point) (r : ℕ) → IsPoint p → IsPoint q → r < prime → r ≢ 0 → Same (point_add p q) (point_add (scaled r p) q)
unfolding summing scaled scaled_expr
scaled_sum p q r hp hq below nonzero =
    let xs : List ℕ = p.z ∷ p.y ∷ p.x ∷ q.z ∷ q.y ∷ q.x ∷ r ∷ [] in
    let h : AreListedBelow prime (p.z ∷ p.y ∷ p.x ∷ q.z ∷ q.y ∷ q.x ∷ r ∷ []) = (hp.z_below, (hp.y_below, (hp.x_below, (hq.z_below, (hq.y_below, (hq.x_below, (below, tt))))))) in
    let s = add_expr first second in
    let t = add_expr scaled_expr second in
    record {
      ratio = times r r;
      below = times-below r r;
      nonzero = times-ne-zero r r below below nonzero nonzero;
      x = identity 7 xs h [] tt t.x (product (product v6 v6) s.x) refl;
      y = identity 7 xs h [] tt t.y (product (product v6 v6) s.y) refl;
      z = identity 7 xs h [] tt t.z (product (product v6 v6) s.z) refl;
    }

pub sum-same_first : (p p' q : Point) → IsPoint p → IsPoint q → Same p p' → Same (point_add p q) (point_add p' q)
sum-same_first p p' q hp hq s = rw (is_scaled s) (scaled_sum p q s.ratio hp hq s.below s.nonzero)

expr_neutral : ExpressionPoint
expr_neutral = record { x = constant 0; y = constant 1; z = constant 0 }

y_of_zero : (x y z : ℕ) → x < prime → y < prime → z < prime → times (times y y) z ≡ cubic x z → y ≡ 0 → cubic x z ≡ 0
unfolding summing
y_of_zero x y z hx hy hz h none =
    identity 3 (x ∷ y ∷ z ∷ []) (hx, (hy, (hz, tt)))
    (equation minus_one (product (product v1 v1) v2) (cubic_expr v0 v2)
    ∷ equation (product v1 v2) v1 (constant 0)
    ∷ []) (h, (none, tt)) (cubic_expr v0 v2) (constant 0) refl

-- the second coordinate of a point is not 0
pub y-some : (p : Point) → IsPoint p → p.y ≢ 0
y-some p h none =
    let zeros = cubic-zero p.x p.z h.x_below h.z_below (y_of_zero p.x p.y p.z h.x_below h.y_below h.z_below h.on_curve none) in
    h.some zeros.0 none zeros.1

pub sum-neutral : (p : Point) → IsPoint p → Same p (point_add p neutral)
unfolding summing expr_neutral
sum-neutral p h =
    let s = add_expr first expr_neutral in
    let xs = one_point p [] in
    let below = one-below [] h tt in
    record {
      ratio = p.y;
      below = h.y_below;
      nonzero = y-some p h;
      x = identity 3 xs below [] tt s.x (product v1 v2) refl;
      y = identity 3 xs below [] tt s.y (product v1 v1) refl;
      z = identity 3 xs below [] tt s.z (product v1 v0) refl;
    }

pub sum-neutral_first : (p : Point) → IsPoint p → Same p (point_add neutral p)
sum-neutral_first p h = rw (sum_comm neutral p neutral-is_point h) (sum-neutral p h)

-- the double is the sum of a point and itself
pub double-same : (p : Point) → IsPoint p → point_double p ≡ point_add p p
unfolding summing
double-same p h =
    let s = add_expr first first in
    let d = double_expr first in
    let xs = one_point p [] in
    let below = one-below [] h tt in
    let on = one-obeys p h in
    let x = identity-on_curve 3 xs below on [] tt d.x s.x refl in
    let y = identity-on_curve 3 xs below on [] tt d.y s.y refl in
    let z = identity-on_curve 3 xs below on [] tt d.z s.z refl in
    λ i. record { x = x i; y = y i; z = z i }

-- the coordinates of the sum of two points with Z = 1
unfoldable sum_lines : List Expression
sum_lines =
    let s = add_expr (plane_expr 0) (plane_expr 2) in
    s.x ∷ s.y ∷ s.z ∷ []

closed : (x y v w : ℕ) → IsPlane x y → IsPlane v w
    → (let s = point_add (plane_point x y) (plane_point v w) in times (times s.y s.y) s.z ≡ cubic s.x s.z)
unfolding summing two_variables sum_lines
closed x y v w h k =
    let xs = two x y v w in
    let obey = two-obey x y v w h k in
    after-program plane 4 prime (listed xs) (lit< tt) obey (run_polynomials plane 4 prime two_variables sum_lines) (run_elements prime xs sum_lines)
    (agree-run plane 4 prime (listed xs) (lit< tt) obey two_variables xs (two-start x y v w h k) sum_lines)
    (product (product v5 v5) v6) (cubic_expr v4 v6) refl

x-below : (p q : Point) → (point_add p q).x < prime
unfolding point_add
x-below p q = minus-below _ _

y-below : (p q : Point) → (point_add p q).y < prime
unfolding point_add
y-below p q = plus-below _ _

z-below : (p q : Point) → (point_add p q).z < prime
unfolding point_add
z-below p q = plus-below _ _

plane-closed : (x y v w : ℕ) → IsPlane x y → IsPlane v w → IsPoint (point_add (plane_point x y) (plane_point v w))
plane-closed x y v w h k =
    let p = plane_point x y in
    let q = plane_point v w in
    record {
      x_below = x-below p q;
      y_below = y-below p q;
      z_below = z-below p q;
      on_curve = closed x y v w h k;
      some = λ a b c. sum-some p q (plane-is_point x y h) (plane-is_point v w k) b c;
    }

pub sum-is_point : (p q : Point) → IsPoint p → IsPoint q → IsPoint (point_add p q)
sum-is_point p q hp hq = elim (kind p hp) [
  | at_infinity s ↦
      let sum = same-is_point hq (sum-neutral_first q hq) in
      same-is_point sum (sum-same_first neutral p q neutral-is_point hq s)
  | in_plane x y h s ↦ elim (kind q hq) [
    | at_infinity t ↦
        let sum = same-is_point hp (sum-neutral_first p hp) in
        rw (sum_comm p q hp hq) (same-is_point sum (sum-same_first neutral q p neutral-is_point hp t))
    | in_plane v w k t ↦
        let a = plane_point x y in
        let b = plane_point v w in
        let ha = plane-is_point x y h in
        let hb = plane-is_point v w k in
        let sum : IsPoint (point_add a q) = rw (sum_comm a q ha hq)
        (same-is_point (rw (sum_comm b a hb ha) (plane-closed x y v w h k)) (sum-same_first b q a hb ha t)) in
        same-is_point sum (sum-same_first a p q ha hq s)
  ]
]

pub sum-same : (p p' q q' : Point) → IsPoint p → IsPoint p' → IsPoint q → IsPoint q' → Same p p' → Same q q'
    → Same (point_add p q) (point_add p' q')
sum-same p p' q q' hp hp' hq hq' s k =
    let right : Same (point_add p' q) (point_add p' q') = rw (sum_comm p' q hp' hq, sum_comm p' q' hp' hq') (sum-same_first q q' p' hq hp' k) in
    same_trans (sum-is_point p q hp hq) (sum-same_first p p' q hp hq s) right

pub double-is_point : (p : Point) → IsPoint p → IsPoint (point_double p)
double-is_point p h = rw (double-same p h) (sum-is_point p p h h)

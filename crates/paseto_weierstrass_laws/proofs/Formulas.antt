-- The sum of two points as expressions, and the equation of the curve, by which cubes are reduced.
use Rattle.std.proofs.Common.{true, ◌≡◌, ℕ, ◌<◌, List, [], ◌∷◌, nat_eq, if◌then◌else◌, refl, sym, ◌∙◌, lit<}
use Rattle.std.specs.Prelude.{Option, None, Some}
use Rattle.paseto_primes.specs.Element.{HoldElements, element}
use Rattle.paseto_primes.specs.Identity.{Equation, is_null, left_sides, right_sides}
use Rattle.paseto_primes.specs.Polynomial.{Expression, constant, difference, polynomial, product, sum, variable}
use Rattle.paseto_primes.specs.Program.{listed}
use Rattle.paseto_primes.specs.Reduction.{Cube, Obey, Obeys, reduced}
use Rattle.paseto_primes.proofs.ElementLaws.{AreListedBelow, element-value, listed-below}
use Rattle.paseto_primes.proofs.ReductionLaws.{elements-by_rules}
use Rattle.paseto_weierstrass_laws.specs.Curve.{base_x, base_y, curve_b}
use Rattle.paseto_weierstrass_laws.specs.Field.{minus, plus, prime, times}
use Rattle.paseto_weierstrass_laws.specs.Group.{IsPoint, cubic}
use Rattle.paseto_weierstrass_laws.specs.Point.{Point, cross, point_add, point_double}
use Rattle.paseto_weierstrass_laws.proofs.Identities.{equation, identifying, identity, minus_one, v0, v1, v2, v3, v4, v5}

pub record ExpressionPoint : Type 0 where
  pub x : Expression
  pub y : Expression
  pub z : Expression

unfoldable pub triple_expr : Expression → Expression
triple_expr e = sum (sum e e) e

unfoldable pub cross_expr : Expression → Expression → Expression → Expression → Expression → Expression → Expression
cross_expr p q r s first second = difference (product (sum p q) (sum r s)) (sum first second)

-- the parts of a sum
pub record Parts : Type 0 where
  pub xy : Expression
  pub yz : Expression
  pub low : Expression
  pub high : Expression
  pub inner : Expression
  pub outer : Expression

unfoldable pub parts_of_sum : ExpressionPoint → ExpressionPoint → Parts
parts_of_sum p q =
    let xx = product p.x q.x in
    let yy = product p.y q.y in
    let zz = product p.z q.z in
    let xy = cross_expr p.x p.y q.x q.y xx yy in
    let yz = cross_expr p.y p.z q.y q.z yy zz in
    let xz = cross_expr p.x p.z q.x q.z xx zz in
    let part = triple_expr (difference xz (product (constant curve_b) zz)) in
    let zzz = triple_expr zz in
    record {
      xy = xy;
      yz = yz;
      low = difference yy part;
      high = sum yy part;
      inner = triple_expr (difference (difference (product (constant curve_b) xz) zzz) xx);
      outer = difference (triple_expr xx) zzz;
    }

unfoldable pub point_of_parts : Parts → ExpressionPoint
point_of_parts k = record {
  x = difference (product k.xy k.high) (product k.yz k.inner);
  y = sum (product k.high k.low) (product k.outer k.inner);
  z = sum (product k.yz k.low) (product k.xy k.outer);
}

unfoldable pub add_expr : ExpressionPoint → ExpressionPoint → ExpressionPoint
add_expr p q = point_of_parts (parts_of_sum p q)

unfoldable pub double_expr : ExpressionPoint → ExpressionPoint
double_expr p =
    let xx = product p.x p.x in
    let yy = product p.y p.y in
    let zz = product p.z p.z in
    let xy = sum (product p.x p.y) (product p.x p.y) in
    let xz = sum (product p.x p.z) (product p.x p.z) in
    let yz = sum (product p.y p.z) (product p.y p.z) in
    let part = triple_expr (difference (product (constant curve_b) zz) xz) in
    let low = difference yy part in
    let high = sum yy part in
    let zzz = triple_expr zz in
    let inner = triple_expr (difference (difference (product (constant curve_b) xz) zzz) xx) in
    let outer = difference (triple_expr xx) zzz in
    let half = sum (product yz yy) (product yz yy) in
    record {
      x = difference (product low xy) (product yz inner);
      y = sum (product low high) (product outer inner);
      z = sum half half;
    }

unfoldable pub cubic_expr : Expression → Expression → Expression
cubic_expr x z =
    sum (difference (product (product x x) x) (triple_expr (product x (product z z)))) (product (constant curve_b) (product (product z z) z))

-- X ^ 3 by the equation of the curve, where Y and Z are these
unfoldable pub cube_of : Expression → Expression → Cube
cube_of y z = record {
  linear = product (constant 3) (product z z);
  rest = difference (product (product y y) z) (product (constant curve_b) (product (product z z) z));
}

-- the variables are Z, Y, X of two points
unfoldable pub projective : ℕ → Option Cube
projective n =
    if nat_eq n 2
    then Some (cube_of (variable 1) (variable 0))
    else (if nat_eq n 5 then Some (cube_of (variable 4) (variable 3)) else None)

-- the variables are y, x of two points with Z = 1
unfoldable pub plane : ℕ → Option Cube
plane n =
    if nat_eq n 1
    then Some (cube_of (variable 0) (constant 1))
    else (if nat_eq n 3 then Some (cube_of (variable 2) (constant 1)) else None)

-- the points of the first three variables, and of the next
abbrev pub first : ExpressionPoint
first = record { x = v2; y = v1; z = v0 }

abbrev pub second : ExpressionPoint
second = record { x = v5; y = v4; z = v3 }

abbrev pub base_expr : ExpressionPoint
base_expr = record { x = constant base_x; y = constant base_y; z = constant 1 }

-- the coordinates of one and two points
abbrev pub one_point : Point → List ℕ → List ℕ
one_point p xs = p.z ∷ p.y ∷ p.x ∷ xs

abbrev pub two_points : Point → Point → List ℕ
two_points p q = one_point p (one_point q [])

pub one-below : {p : Point} (xs : List ℕ) → IsPoint p → AreListedBelow prime xs → AreListedBelow prime (one_point p xs)
one-below xs h k = (h.z_below, (h.y_below, (h.x_below, k)))

pub two-below : {p q : Point} → IsPoint p → IsPoint q → AreListedBelow prime (two_points p q)
two-below {p} {q} h k = one-below (one_point q []) h (one-below [] k tt)

-- all that an identity about sums computes with
unfoldable pub summing : ℕ
unfolding identifying projective plane cube_of parts_of_sum point_of_parts add_expr double_expr triple_expr cross_expr cubic_expr point_add point_double cross cubic
summing = 0

-- X ^ 3 by the equation of the curve
pub cubed : (x y z : ℕ) → x < prime → y < prime → z < prime → times (times y y) z ≡ cubic x z
    → times x (times x x) ≡ plus (times (times 3 (times z z)) x) (minus (times (times y y) z) (times curve_b (times (times z z) z)))
unfolding summing
cubed x y z hx hy hz on =
    let c = cube_of v1 v0 in
    identity 3 (z ∷ y ∷ x ∷ []) (hz, (hy, (hx, tt))) (equation minus_one (product (product v1 v1) v0) (cubic_expr v2 v0) ∷ []) (on, tt)
    (product v2 (product v2 v2)) (sum (product c.linear v2) c.rest) refl

first-obeys : (p : Point) (xs : List ℕ) → IsPoint p → AreListedBelow prime xs → Obeys 2 prime (listed (one_point p xs)) (projective 2)
unfolding summing
first-obeys p xs h k =
    let c = cube_of v1 v0 in
    let numbers = listed (one_point p xs) in
    let below = listed-below prime (one_point p xs) (lit< tt) (one-below xs h k) in
    sym (element-value 3 prime numbers (lit< tt) below (product v2 (product v2 v2)))
    ∙ cubed p.x p.y p.z h.x_below h.y_below h.z_below h.on_curve
    ∙ element-value 3 prime numbers (lit< tt) below (sum (product c.linear v2) c.rest)

second-obeys : (p q : Point) → IsPoint p → IsPoint q → Obeys 5 prime (listed (two_points p q)) (projective 5)
unfolding summing
second-obeys p q hp h =
    let c = cube_of (variable 4) (variable 3) in
    let numbers = listed (two_points p q) in
    let below = listed-below prime (two_points p q) (lit< tt) (two-below hp h) in
    sym (element-value 6 prime numbers (lit< tt) below (product v5 (product v5 v5)))
    ∙ cubed q.x q.y q.z h.x_below h.y_below h.z_below h.on_curve
    ∙ element-value 6 prime numbers (lit< tt) below (sum (product c.linear v5) c.rest)

pub one-obeys : (p : Point) → IsPoint p → Obey projective 3 prime (listed (one_point p []))
unfolding projective
one-obeys p h = (first-obeys p [] h tt, (tt, (tt, tt)))

pub two-obey : (p q : Point) → IsPoint p → IsPoint q → Obey projective 6 prime (listed (two_points p q))
unfolding projective
two-obey p q hp hq =
    (second-obeys p q hp hq, (tt, (tt, (first-obeys p (one_point q []) hp (one-below [] hq tt), (tt, (tt, tt))))))

-- elements are equal by equations, for points of the curve
pub identity-on_curve : (n : ℕ) (xs : List ℕ) → AreListedBelow prime xs → Obey projective n prime (listed xs)
    → (es : List Equation) → HoldElements n prime (listed xs) es → (a b : Expression)
    → is_null n prime (reduced projective n prime (polynomial n prime (difference (sum a (right_sides es)) (sum b (left_sides es))))) ≡ true
    → element n prime (listed xs) a ≡ element n prime (listed xs) b
identity-on_curve n xs below obey es =
    elements-by_rules projective n prime (listed xs) (lit< tt) (listed-below prime xs (lit< tt) below) obey es

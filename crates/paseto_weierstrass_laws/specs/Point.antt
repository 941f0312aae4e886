-- Points in projective coordinates: (X, Y, Z) is the point (X / Z, Y / Z), and the neutral point where Z is 0. Their
-- sums are defined by the complete formulas of J. Renes, C. Costello and L. Batina ("Complete Addition Formulas for
-- Prime Order Elliptic Curves", EUROCRYPT 2016), where a is -3.
use Rattle.std.specs.Prelude.{ℕ}
use Rattle.paseto_weierstrass_laws.specs.Curve.{base_x, base_y, curve_b}
use Rattle.paseto_weierstrass_laws.specs.Field.{minus, plus, times, triple}

pub record Point : Type 0 where
  pub x : ℕ
  pub y : ℕ
  pub z : ℕ

-- p * s + q * r, from the products p * r and q * s
unfoldable pub cross : ℕ → ℕ → ℕ → ℕ → ℕ → ℕ → ℕ
cross p q r s first second = minus (times (plus p q) (plus r s)) (plus first second)

-- the sum of two points (algorithm 4)
unfoldable pub point_add : Point → Point → Point
point_add p q =
    let xx = times p.x q.x in
    let yy = times p.y q.y in
    let zz = times p.z q.z in
    let xy = cross p.x p.y q.x q.y xx yy in
    let yz = cross p.y p.z q.y q.z yy zz in
    let xz = cross p.x p.z q.x q.z xx zz in
    let part = triple (minus xz (times curve_b zz)) in
    let low = minus yy part in
    let high = plus yy part in
    let zzz = triple zz in
    let inner = triple (minus (minus (times curve_b xz) zzz) xx) in
    let outer = minus (triple xx) zzz in
    record {
      x = minus (times xy high) (times yz inner);
      y = plus (times high low) (times outer inner);
      z = plus (times yz low) (times xy outer);
    }

-- the double of a point (algorithm 6)
unfoldable pub point_double : Point → Point
point_double p =
    let xx = times p.x p.x in
    let yy = times p.y p.y in
    let zz = times p.z p.z in
    let xy = plus (times p.x p.y) (times p.x p.y) in
    let xz = plus (times p.x p.z) (times p.x p.z) in
    let yz = plus (times p.y p.z) (times p.y p.z) in
    let part = triple (minus (times curve_b zz) xz) in
    let low = minus yy part in
    let high = plus yy part in
    let zzz = triple zz in
    let inner = triple (minus (minus (times curve_b xz) zzz) xx) in
    let outer = minus (triple xx) zzz in
    let half = plus (times yz yy) (times yz yy) in
    record {
      x = minus (times low xy) (times yz inner);
      y = plus (times low high) (times outer inner);
      z = plus half half;
    }

abbrev pub neutral : Point
neutral = record { x = 0; y = 1; z = 0 }

-- G
abbrev pub base : Point
base = record { x = base_x; y = base_y; z = 1 }

-- The points of the curve, and when two are the same.
use Rattle.std.specs.Prelude.{◌≡◌, ◌≢◌, ℕ, ◌<◌}
use Rattle.paseto_weierstrass_laws.specs.Curve.{curve_b}
use Rattle.paseto_weierstrass_laws.specs.Field.{minus, plus, prime, times, triple}
use Rattle.paseto_weierstrass_laws.specs.Point.{Point}

-- X ^ 3 - 3 * X * Z ^ 2 + b * Z ^ 3
unfoldable pub cubic : ℕ → ℕ → ℕ
cubic x z = plus (minus (times (times x x) x) (triple (times x (times z z)))) (times curve_b (times (times z z) z))

-- a point of the curve Y ^ 2 * Z = X ^ 3 - 3 * X * Z ^ 2 + b * Z ^ 3, which (0, 0, 0) is not
pub record IsPoint (p : Point) : Type 0 where
  pub x_below : p.x < prime
  pub y_below : p.y < prime
  pub z_below : p.z < prime
  pub on_curve : times (times p.y p.y) p.z ≡ cubic p.x p.z
  pub some : p.x ≡ 0 → p.y ≡ 0 → p.z ≡ 0 → ⊥

-- the same point: the coordinates of q are those of p times one ratio
pub record Same (p q : Point) : Type 0 where
  pub ratio : ℕ
  pub below : ratio < prime
  pub nonzero : ratio ≢ 0
  pub x : q.x ≡ times ratio p.x
  pub y : q.y ≡ times ratio p.y
  pub z : q.z ≡ times ratio p.z

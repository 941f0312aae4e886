-- Sums by lines (SEC 1, section 2.2.1): the textbook's form, for points of the plane, which have Z = 1.
use Rattle.std.specs.Prelude.{◌≡◌, ◌≢◌, ℕ, ◌<◌}
use Rattle.paseto_weierstrass_laws.specs.Field.{minus, plus, prime, times, triple}
use Rattle.paseto_weierstrass_laws.specs.Point.{Point}

-- the point (x, y)
abbrev pub affine : ℕ → ℕ → Point
affine x y = record { x = x; y = y; z = 1 }

-- the opposite of a point: of (x, y) it is (x, -y)
abbrev pub opposite : Point → Point
opposite p = record { x = p.x; y = minus 0 p.y; z = p.z }

-- k is the slope of the chord through (x, y) and (v, w), k = (w - y) / (v - x) (rule 4)
pub record IsChord (x y v w k : ℕ) : Type 0 where
  pub below : k < prime
  pub apart : x ≢ v
  pub slope : times k (minus v x) ≡ minus w y

-- k is the slope of the tangent at (x, y), k = (3 * x^2 - 3) / (2 * y) (rule 5)
pub record IsTangent (x y k : ℕ) : Type 0 where
  pub below : k < prime
  pub slope : times k (plus y y) ≡ minus (triple (times x x)) 3

-- the sum of (x, y) and a point with the coordinate v, by the line of slope k: k^2 - x - v, and k * (x - that) - y
unfoldable pub line_x : ℕ → ℕ → ℕ → ℕ
line_x k x v = minus (minus (times k k) x) v

unfoldable pub line_y : ℕ → ℕ → ℕ → ℕ → ℕ
line_y k x y v = minus (times k (minus x (line_x k x v))) y

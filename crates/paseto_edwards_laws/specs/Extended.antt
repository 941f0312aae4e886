-- Points in extended homogeneous coordinates (RFC 8032, section 5.1.4): (X, Y, Z, T) is the point (x, y) with
-- x = X / Z, y = Y / Z and x * y = T / Z.
use Rattle.std.specs.Prelude.{ℕ, ◌*◌, ◌%◌, ◌<◌, ◌≡◌, ◌≢◌}
use Rattle.paseto_primes.specs.Element.{minus, plus, times}
use Rattle.paseto_edwards_laws.specs.Group.{Affine, IsPoint}

pub record Extended : Type 0 where
  pub x : ℕ
  pub y : ℕ
  pub z : ℕ
  pub t : ℕ

-- these are coordinates of the point a
pub record Stands (p d : ℕ) (q : Extended) (a : Affine) : Type 0 where
  pub point : IsPoint p d a
  pub x_low : q.x < p
  pub t_low : q.t < p
  pub unit : q.z % p ≢ 0
  pub x_is : q.x % p ≡ (a.x * q.z) % p
  pub y_is : q.y % p ≡ (a.y * q.z) % p
  pub t_is : q.t % p ≡ (a.x * a.y * q.z) % p

-- the coordinates of a point with Z = 1
unfoldable pub of_affine : ℕ → Affine → Extended
of_affine p a = record { x = a.x; y = a.y; z = 1; t = times p a.x a.y }

-- the sum of two points
unfoldable pub added : ℕ → ℕ → Extended → Extended → Extended
added p d r q =
    let a = times p (minus p r.y r.x) (minus p q.y q.x) in
    let b = times p (plus p r.y r.x) (plus p q.y q.x) in
    let c = times p (times p r.t (2 * d % p)) q.t in
    let zz = times p r.z q.z in
    let dd = plus p zz zz in
    let e = minus p b a in
    let f = minus p dd c in
    let g = plus p dd c in
    let h = plus p b a in
    record { x = times p e f; y = times p g h; z = times p f g; t = times p e h }

-- the double of a point, by the formulas of its own
unfoldable pub doubled : ℕ → Extended → Extended
doubled p r =
    let a = times p r.x r.x in
    let b = times p r.y r.y in
    let zz = times p r.z r.z in
    let c = plus p zz zz in
    let h = plus p a b in
    let e = minus p h (times p (plus p r.x r.y) (plus p r.x r.y)) in
    let g = minus p a b in
    let f = plus p c g in
    record { x = times p e f; y = times p g h; z = times p f g; t = times p e h }

-- -(x, y), which is (-x, y)
unfoldable pub negated : ℕ → Extended → Extended
negated p r = record { x = minus p 0 r.x; y = r.y; z = r.z; t = minus p 0 r.t }

-- Extended homogeneous coordinates (RFC 8032, section 5.1.4): the point (x, y) is (X, Y, Z, T) with x = X / Z, y = Y / Z
-- and x * y = T / Z.
use Rattle.std.specs.Prelude.{ℕ, ◌-◌, ◌^◌}
use Rattle.paseto_edwards_laws.specs.Group.{Affine}
use Rattle.paseto_edwards_laws.specs.Extended.{Extended, Stands}
use Rattle.paseto_edwards_laws.specs.Edwards25519.{d, prime}
use Rattle.paseto_edwards25519.specs.Field.{minus, plus, power, times}

-- 1 / z
abbrev pub inverse : ℕ → ℕ
inverse z = power z (prime - 2)

abbrev pub extended : ℕ → ℕ → ℕ → ℕ → Extended
extended x y z t = record { x = x; y = y; z = z; t = t }

-- the point of coordinates
unfoldable pub affine : Extended → Affine
affine q = record { x = times q.x (inverse q.z); y = times q.y (inverse q.z) }

-- the coordinates of a point of the curve
abbrev pub IsExtended : Extended → Type 0
IsExtended q = Stands prime d q (affine q)

-- the coordinates whose T is not kept
unfoldable pub flat : ℕ → ℕ → ℕ → Extended
flat x y z = extended x y z (times (times (times x (inverse z)) (times y (inverse z))) z)

-- (E * F, G * H, F * G, E * H), with the names of RFC 8032: what a sum or a double is before its last products
abbrev pub factored : ℕ → ℕ → ℕ → ℕ → Extended
factored e f g h = extended (times e f) (times g h) (times f g) (times e h)

abbrev pub half : ℕ
half = 2 ^ 254 - 9

-- 1 / (2 * d)
abbrev pub half_of_inverse_d : ℕ
half_of_inverse_d = 43549684094568965012858857662598492841029503910925194177450539249793226832920

-- the coordinates of which Y - X, Y + X, Z and 2 * d * T are kept, as a sum reads them
unfoldable pub between : ℕ → ℕ → ℕ → ℕ → Extended
between difference total z scaled = extended
    (times half (minus total difference)) (times half (plus total difference)) z (times half_of_inverse_d scaled)

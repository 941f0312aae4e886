-- Multiples of a point.
use Rattle.std.specs.Prelude.{ℕ, zero, suc}
use Rattle.paseto_edwards_laws.specs.Group.{Affine, neutral, sum}

-- [n]P, which is P + .. + P
unfoldable pub multiple_of : ℕ → ℕ → ℕ → Affine → Affine
multiple_of p d zero a = neutral
multiple_of p d (suc n) a = sum p d (multiple_of p d n a) a

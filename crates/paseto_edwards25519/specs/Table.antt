-- Multiples of the base point, as the table has them.
use Rattle.std.specs.Prelude.{ℕ, ◌+◌, ◌*◌, ◌^◌, ◌<◌, List, slice_index}
use Rattle.paseto_edwards_laws.specs.Extended.{Stands}
use Rattle.paseto_edwards_laws.specs.Edwards25519.{base, d, prime}
use Rattle.paseto_edwards25519.specs.Curve.{multiple}
use Rattle.paseto_edwards25519.specs.Extended.{between}

-- the number whose lower and upper 128 bits stand at i
abbrev pub whole : List ℕ → ℕ → ℕ
whole e i = slice_index e i + 2 ^ 128 * slice_index e (i + 1)

-- Y - X, Y + X and 2 * d * T of [n]B, where Z is 1
pub record IsEntry (n : ℕ) (e : List ℕ) : Type 0 where
  pub difference_low : whole e 0 < prime
  pub total_low : whole e 2 < prime
  pub scaled_low : whole e 4 < prime
  pub stands : Stands prime d (between (whole e 0) (whole e 2) 1 (whole e 4)) (multiple n base)

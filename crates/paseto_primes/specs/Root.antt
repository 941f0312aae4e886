-- Square roots modulo a prime.
use Rattle.std.specs.Prelude.{ℕ, ◌*◌, ◌%◌, ◌^◌, ◌≡◌}

-- a quadratic nonresidue: times the square of a number that p does not divide, it is no square
abbrev pub IsNonresidue : ℕ → ℕ → Type 0
IsNonresidue p d = (x y : ℕ) → (x * x) % p ≡ (d * (y * y)) % p → y % p ≡ 0

-- u * v ^ 3 * (u * v ^ 7) ^ k, where p is 8 * k + 5: with no division, a square root of u / v but for a fourth root of 1,
-- if u / v has one (RFC 8032, section 5.1.3, step 2)
unfoldable pub quotient_root : ℕ → ℕ → ℕ → ℕ
quotient_root k u v = u * (v * v * v) * (u * (v * v * v * (v * v * v) * v)) ^ k

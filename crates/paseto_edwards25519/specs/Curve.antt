-- The points of edwards25519 (RFC 8032, section 5.1), and their sums.
use Rattle.std.specs.Prelude.{◌≡◌, ℕ, ◌*◌, ◌%◌}
use Rattle.paseto_edwards_laws.specs.Edwards25519.{base_x, base_y, d, prime}
use Rattle.paseto_edwards_laws.specs.Group.{Affine, IsPoint as IsPointOf, neutral, opposite as opposite_of, sum as sum_of}
use Rattle.paseto_edwards_laws.specs.Multiples.{multiple_of}

abbrev pub twice_d : ℕ
twice_d = 2 * d % prime

-- the product of the coordinates of B
abbrev pub base_t : ℕ
base_t = base_x * base_y % prime

abbrev pub IsPoint : Affine → Type 0
IsPoint a = IsPointOf prime d a

abbrev pub sum : Affine → Affine → Affine
sum a b = sum_of prime d a b

-- -(x, y), which is (-x, y)
abbrev pub opposite : Affine → Affine
opposite a = opposite_of prime a

-- [n]a, which is a added up n times
abbrev pub multiple : ℕ → Affine → Affine
multiple n a = multiple_of prime d n a

-- one of the eight points whose multiple by 8, the curve's cofactor, is the neutral point
abbrev pub HasSmallOrder : Affine → Type 0
HasSmallOrder a = multiple 8 a ≡ neutral

-- Multiples of a point.
use Rattle.std.specs.Prelude.{ℕ, zero, suc, ◌/◌, ◌%◌, nat_eq, if◌then◌else◌}
use Rattle.paseto_weierstrass_laws.specs.Group.{IsPoint, Same}
use Rattle.paseto_weierstrass_laws.specs.Point.{Point, neutral, point_add, point_double}

-- [n]P, which is P + .. + P
unfoldable pub multiple_of : ℕ → Point → Point
multiple_of zero p = neutral
multiple_of (suc n) p = point_add (multiple_of n p) p

-- q is [n]P
pub record IsMultiple (p q : Point) (n : ℕ) : Type 0 where
  pub point : IsPoint q
  pub same : Same (multiple_of n p) q

-- s is [m]P + [n]Q
pub record IsSum (p q s : Point) (m n : ℕ) : Type 0 where
  pub point : IsPoint s
  pub same : Same (point_add (multiple_of m p) (multiple_of n q)) s

-- a point and what two bits ask to be added to it: p, q, or p + q
unfoldable pub point_add_by : Point → Point → Point → ℕ → ℕ → Point
point_add_by sum p q i j =
    if nat_eq i 1
    then (if nat_eq j 1 then point_add sum (point_add p q) else point_add sum p)
    else (if nat_eq j 1 then point_add sum q else sum)

-- [k]P + [l]Q by numbers of n bits: double and add over both from the highest bit
unfoldable pub joint_multiple : Point → Point → ℕ → ℕ → ℕ → Point
joint_multiple p q zero k l = neutral
joint_multiple p q (suc n) k l =
    point_add_by (point_double (joint_multiple p q n (k / 2) (l / 2))) p q (k % 2) (l % 2)

-- Twisted Edwards curves with a = -1 (Bernstein, Birkner, Joye, Lange and Peters, "Twisted Edwards Curves",
-- AFRICACRYPT 2008, sections 2 and 6), whose points are pairs of numbers below p.
use Rattle.std.specs.Prelude.{ℕ, ◌+◌, ◌-◌, ◌*◌, ◌%◌, ◌^◌, ◌<◌, ◌≡◌}
use Rattle.paseto_primes.specs.Prime.{IsPrime}
use Rattle.paseto_primes.specs.Root.{IsNonresidue}

-- (x, y) lies on the curve -x ^ 2 + y ^ 2 = 1 + d * x ^ 2 * y ^ 2 modulo p
abbrev pub IsOn : ℕ → ℕ → ℕ → ℕ → Type 0
IsOn p d x y = (y * y) % p ≡ (1 + x * x + d * (x * x * (y * y))) % p

-- a curve on which the sum of each two points is defined: p is an odd prime, -1 is a square, and d is none
pub record IsComplete (p d : ℕ) : Type 0 where
  pub prime : IsPrime p
  pub odd : 2 < p
  pub root : ℕ
  pub square : (root * root + 1) % p ≡ 0
  pub nonresidue : IsNonresidue p d

pub record Affine : Type 0 where
  pub x : ℕ
  pub y : ℕ

-- a point of the curve
pub record IsPoint (p d : ℕ) (a : Affine) : Type 0 where
  pub x_low : a.x < p
  pub y_low : a.y < p
  pub on : IsOn p d a.x a.y

abbrev pub neutral : Affine
neutral = record { x = 0; y = 1 }

-- -(x, y), which is (-x, y)
unfoldable pub opposite : ℕ → Affine → Affine
opposite p a = record { x = (p - a.x) % p; y = a.y }

-- d * x * v * y * w, for the points (x, y) and (v, w)
unfoldable pub cross : ℕ → Affine → Affine → ℕ
cross d a b = d * (a.x * b.x * (a.y * b.y))

-- (x, y) + (v, w) = ((x * w + y * v) / (1 + e), (y * w + x * v) / (1 - e)), where e is the product above, and 1 / z is
-- z ^ (p - 2)
unfoldable pub sum : ℕ → ℕ → Affine → Affine → Affine
sum p d a b =
    let e = cross d a b in
    record {
      x = ((a.x * b.y + a.y * b.x) * (1 + e) ^ (p - 2)) % p;
      y = ((a.y * b.y + a.x * b.x) * (1 + (p - e % p)) ^ (p - 2)) % p;
    }

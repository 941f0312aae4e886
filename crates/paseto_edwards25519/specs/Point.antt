-- The points that the fields of the code's structs are.
use Rattle.std.specs.Prelude.{◌≡◌, ℕ, ◌+◌, ◌*◌, ◌<◌, List, get_or}
use Rattle.paseto_edwards_laws.specs.Group.{Affine}
use Rattle.paseto_edwards_laws.specs.Extended.{Extended}
use Rattle.paseto_edwards25519.specs.declared.point.addend.Addend.{Addend}
use Rattle.paseto_edwards25519.specs.declared.point.completed.Completed.{Completed}
use Rattle.paseto_edwards25519.specs.declared.point.extended.ExtendedPoint.{ExtendedPoint}
use Rattle.paseto_edwards25519.specs.declared.point.projective.ProjectivePoint.{ProjectivePoint}
use Rattle.paseto_edwards25519.specs.Curve.{multiple}
use Rattle.paseto_edwards25519.specs.Extended.{affine, between, extended, factored, flat}
use Rattle.paseto_edwards25519.specs.Field.{number}
use Rattle.paseto_edwards25519.specs.Windows.{signed_multiple}

abbrev pub coordinates : ExtendedPoint → Extended
coordinates p = extended (number p.x) (number p.y) (number p.z) (number p.t)

abbrev pub projected : ProjectivePoint → Extended
projected p = flat (number p.x) (number p.y) (number p.z)

abbrev pub completed : Completed → Extended
completed c = factored (number c.e) (number c.f) (number c.g) (number c.h)

abbrev pub prepared : Addend → Extended
prepared q = between (number q.difference) (number q.total) (number q.z) (number q.scaled)

-- the point that four elements of the field are
abbrev pub point : ExtendedPoint → Affine
point p = affine (coordinates p)

-- the multiples of a point by the first n odd numbers
abbrev pub AreOddMultiples : Affine → ℕ → List Addend → Type 0
AreOddMultiples a n table = (j : ℕ) (other : Addend) → j < n → affine (prepared (get_or table j other)) ≡ multiple (2 * j + 1) a

-- the multiples of a point that the first n odd digits stand for
abbrev pub AreSignedMultiples : Affine → ℕ → List Addend → Type 0
AreSignedMultiples a n table = (j : ℕ) (other : Addend) → j < n → affine (prepared (get_or table j other)) ≡ signed_multiple (2 * j + 1) a

-- the first n have Z = 1
abbrev pub HaveUnitZ : ℕ → List Addend → Type 0
HaveUnitZ n table = (j : ℕ) (other : Addend) → j < n → number (get_or table j other).z ≡ 1

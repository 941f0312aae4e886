-- edwards25519 is a complete curve, and the base point is on it.
use Rattle.std.proofs.Common.{◌≡◌, ℕ, ◌-◌, ◌^◌, refl, sym, ◌∙◌, lit<}
use Rattle.paseto_primes.specs.Power.{raised}
use Rattle.paseto_primes.specs.Root.{IsNonresidue}
use Rattle.paseto_primes.proofs.EulerLaws.{nonresidue}
use Rattle.paseto_primes.proofs.FieldOfEdwards25519.{is-prime}
use Rattle.paseto_primes.proofs.PowerLaws.{raised-is}
use Rattle.paseto_edwards_laws.specs.Edwards25519.{base, d, prime, square_root_of_minus_one}
use Rattle.paseto_edwards_laws.specs.Group.{IsComplete, IsPoint}

-- (p - 1) / 2
abbrev half : ℕ
half = 2 ^ 254 - 10

d-power : raised 255 d half prime ≡ prime - 1
unfolding raised
d-power = refl

d-nonresidue : IsNonresidue prime d
d-nonresidue = nonresidue prime half d is-prime refl (lit< tt) (sym (raised-is 255 d half prime (lit< tt)) ∙ d-power)

pub curve : IsComplete prime d
curve = record { prime = is-prime; odd = lit< tt; root = square_root_of_minus_one; square = refl; nonresidue = d-nonresidue }

pub base-point : IsPoint prime d base
base-point = record { x_low = lit< tt; y_low = lit< tt; on = refl }

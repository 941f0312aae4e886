-- Verifying and signing of a hash, as numbers (FIPS 186-5, sections 6.4.1 and 6.4.2).
use Rattle.std.specs.Prelude.{◌≡◌, ◌≢◌, ◌⊎◌, ℕ, ◌+◌, ◌%◌, ◌<◌, List, ◌++◌, Option, None, Some, nat_eq, nat_lt, if◌then◌else◌}
use Rattle.paseto_montgomery.specs.Octets.{i2osp}
use Rattle.paseto_weierstrass_laws.specs.Curve.{order}
use Rattle.paseto_weierstrass_laws.specs.Field.{inverse, prime, times}
use Rattle.paseto_weierstrass_laws.specs.Multiples.{multiple_of}
use Rattle.paseto_weierstrass_laws.specs.Point.{Point, base, point_add}
use Rattle.paseto_p384.specs.Scalar.{scalar_inverse, scalar_plus, scalar_times}

-- R = [u1]G + [u2]Q of a hash e and a signature (r, s): u1 is e / s and u2 is r / s modulo n (6.4.2, steps 3 to 5)
unfoldable pub named : Point → ℕ → ℕ → ℕ → Point
named q e r s =
    let w = scalar_inverse s in
    point_add (multiple_of (scalar_times (e % order) w) base) (multiple_of (scalar_times r w) q)

-- R is not the neutral point, and its coordinate X / Z modulo n is r: X / Z is below p, which is below 2 * n, and so
-- it is r or r + n (6.4.2, steps 6 to 8)
unfoldable pub IsFirst : Point → ℕ → Type 0
IsFirst p r = (p.z ≢ 0) × ((times r p.z ≡ p.x) ⊎ ((r + order < prime) × (times (r + order) p.z ≡ p.x)))

-- the signature (r, s) of a hash e is valid for the public key Q (6.4.2, steps 1 to 8)
unfoldable pub Accepts : Point → ℕ → ℕ → ℕ → Type 0
Accepts q e r s = ((0 < r) × (r < order)) × ((0 < s) × (s < order)) × IsFirst (named q e r s) r

-- r: the coordinate X / Z of [k]G modulo n (6.4.1, steps 5 to 7)
unfoldable pub first : ℕ → ℕ
first k = let p = multiple_of k base in times p.x (inverse p.z) % order

-- s: (e + r * d) / k modulo n (6.4.1, step 9)
unfoldable pub second : ℕ → ℕ → ℕ → ℕ → ℕ
second d e k r = scalar_times (scalar_inverse k) (scalar_plus (e % order) (scalar_times r d))

-- r and s, each in 48 octets
abbrev pub halves : ℕ → ℕ → List ℕ
halves r s = i2osp r 48 ++ i2osp s 48

-- a signature, if neither half is 0 (6.4.1, step 11)
unfoldable pub nonzero : ℕ → ℕ → Option (List ℕ)
nonzero r s = if nat_eq r 0 then None else (if nat_eq s 0 then None else Some (halves r s))

-- the signature of a hash e under the private key d by a number k, if k is a nonce and neither half is 0
unfoldable pub attempt : ℕ → ℕ → ℕ → Option (List ℕ)
attempt d e k =
    if nat_lt 0 k
    then (if nat_lt k order then nonzero (first k) (second d e k (first k)) else None)
    else None

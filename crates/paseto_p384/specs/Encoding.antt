-- Points of the curve as octets (SEC 1, sections 2.3.3 and 2.3.4), compressed.
use Rattle.std.specs.Prelude.{ℕ, ◌+◌, ◌/◌, ◌%◌, List, ◌∷◌, ◌++◌, drop, slice_index, Option, None, Some, option_map, nat_eq, nat_lt, if◌then◌else◌}
use Rattle.paseto_montgomery.specs.Octets.{i2osp, os2ip}
use Rattle.paseto_weierstrass_laws.specs.Curve.{curve_b}
use Rattle.paseto_weierstrass_laws.specs.Field.{inverse, minus, plus, power, prime, times, triple}
use Rattle.paseto_weierstrass_laws.specs.Point.{Point}

-- 2 or 3 by the parity of y, and x, of the point (X / Z, Y / Z) (2.3.3, step 2)
unfoldable pub encoded : Point → List ℕ
encoded p =
    let z = inverse p.z in
    (2 + times p.y z % 2) ∷ i2osp (times p.x z) 48

-- the coordinates x and y of the point (X / Z, Y / Z), each in 48 octets (2.3.3, step 3)
unfoldable pub affine : Point → List ℕ
affine p =
    let z = inverse p.z in
    i2osp (times p.x z) 48 ++ i2osp (times p.y z) 48

-- alpha, which y ^ 2 has to be: x ^ 3 - 3 * x + b (2.3.4, step 2.4.1)
unfoldable pub right_side : ℕ → ℕ
right_side x = plus (minus (times (times x x) x) (triple x)) curve_b

-- the number or its opposite, whose lowest bit is to be this (2.3.4, step 2.4.1)
unfoldable pub signed : ℕ → ℕ → ℕ
signed odd y = if nat_eq (y % 2) odd then y else minus 0 y

-- the point of x and of a root of alpha whose lowest bit is this, if there is one
unfoldable pub point_at : ℕ → ℕ → Option Point
point_at odd x =
    let y = power (right_side x) ((prime + 1) / 4) in
    if nat_eq (times y y) (right_side x) then Some (record { x = x; y = signed odd y; z = 1 }) else None

-- the point that 49 octets are, if they are one: the first is 2 or 3, and x is below p (2.3.4, step 2)
unfoldable pub decoded : List ℕ → Option Point
decoded octets =
    let first = slice_index octets 0 in
    let x = os2ip (drop 1 octets) in
    if nat_eq (first / 2) 1 then (if nat_lt x prime then point_at (first % 2) x else None) else None

-- the coordinates of the point that 49 octets are, if they are one
abbrev pub coordinates_of : List ℕ → Option (List ℕ)
coordinates_of octets = option_map affine (decoded octets)

-- Points in 32 bytes (RFC 8032, sections 5.1.2 and 5.1.3).
use Rattle.std.specs.Prelude.{ℕ, ◌+◌, ◌-◌, ◌*◌, ◌/◌, ◌%◌, ◌^◌, List, Option, None, Some, nat_eq, nat_lt, if◌then◌else◌}
use Rattle.paseto_edwards_laws.specs.Group.{Affine}
use Rattle.paseto_edwards_laws.specs.Edwards25519.{d, square_root_of_minus_one, prime}
use Rattle.paseto_edwards25519.specs.Field.{minus, plus, power, times}
use Rattle.paseto_edwards25519.specs.Scalar.{bytes32, number32}

-- a point in 32 bytes: y, and the lowest bit of x as the highest bit (5.1.2)
unfoldable pub encoded : Affine → List ℕ
encoded a = bytes32 (a.y + 2 ^ 255 * (a.x % 2))

-- (u / v) ^ ((p + 3) / 8), which is a square root of u / v if any of its products by a fourth root of 1 is (5.1.3, step 2)
unfoldable pub candidate : ℕ → ℕ → ℕ
candidate u v =
    let cube = times (times v v) v in
    let seventh = times (times cube cube) v in
    times (times u cube) (power (times u seventh) ((prime - 5) / 8))

-- the square root of u / v, if it has one (5.1.3, step 3)
unfoldable pub square_root : ℕ → ℕ → Option ℕ
square_root u v =
    let x = candidate u v in
    let product = times v (times x x) in
    if nat_eq product u then Some x
    else (if nat_eq product (minus 0 u) then Some (times x square_root_of_minus_one) else None)

-- x or -x at y: x ^ 2 is (y ^ 2 - 1) / (d y ^ 2 + 1) (5.1.3, step 2)
unfoldable pub root_at : ℕ → Option ℕ
root_at y = square_root (minus (times y y) 1) (plus (times d (times y y)) 1)

-- the point (x, y)
abbrev pub at : ℕ → ℕ → Affine
at x y = record { x = x; y = y }

-- the point of y and of x or -x, whose lowest bit is to be this; 0 has no sign (5.1.3, step 4)
unfoldable pub point_of : ℕ → ℕ → Option ℕ → Option Affine
point_of y sign None = None
point_of y sign (Some x) =
    if nat_eq (x % 2) sign then Some (at x y)
    else (if nat_eq x 0 then None
    else Some (at (minus 0 x) y))

-- the point that 32 bytes are (5.1.3)
unfoldable pub decoded : List ℕ → Option Affine
decoded bytes =
    let y = number32 bytes % 2 ^ 255 in
    let sign = number32 bytes / 2 ^ 255 in
    if nat_lt y prime
    then point_of y sign (root_at y)
    else None

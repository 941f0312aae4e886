-- X25519 (RFC 7748, section 5).
use Rattle.std.specs.Prelude.{ℕ, ◌+◌, ◌*◌, ◌/◌, ◌%◌, ◌^◌, List, ◌∷◌, replicate, slice_index, slice_set}
use Rattle.paseto_edwards_laws.specs.Edwards25519.{prime}
use Rattle.paseto_edwards25519.specs.Scalar.{bytes32, number32}
use Rattle.paseto_x25519.specs.Ladder.{ladder}

-- the bytes of a scalar, with the three lowest bits and the highest cleared, and the second highest set
unfoldable pub clamped : List ℕ → List ℕ
clamped k =
    let cleared = slice_set k 0 (slice_index k 0 / 8 * 8) in
    slice_set cleared 31 (slice_index cleared 31 % 64 + 64)

-- decodeScalar25519
abbrev pub decoded_scalar : List ℕ → ℕ
decoded_scalar k = number32 (clamped k)

-- decodeUCoordinate: the highest bit is masked, and a number from p on is taken modulo p
abbrev pub decoded_u : List ℕ → ℕ
decoded_u u = number32 u % 2 ^ 255 % prime

-- X25519(k, u); encodeUCoordinate makes the bytes of a number below p
abbrev pub x25519 : List ℕ → List ℕ → List ℕ
x25519 k u = bytes32 (ladder (decoded_scalar k) (decoded_u u))

-- u = 9 (section 6.1)
abbrev pub base_point : List ℕ
base_point = 9 ∷ replicate 31 0

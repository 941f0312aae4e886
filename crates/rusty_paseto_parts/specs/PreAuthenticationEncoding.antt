-- Pre-authentication encoding (PASETO specification, "Authentication Padding").
use Rattle.std.specs.Prelude.{ℕ, ◌%◌, ◌^◌, List, ◌++◌, length}
use Rattle.std.specs.Int.{to_le_bytes, w64}
use Rattle.std.specs.List.{flat_map}

-- LE64: a number modulo 2^64 in eight bytes, the least first
unfoldable pub le64 : ℕ → List ℕ
le64 n = to_le_bytes w64 (n % 2 ^ 64)

-- a piece: its length, and its bytes
unfoldable pub encoded_piece : List ℕ → List ℕ
encoded_piece piece = le64 (length piece) ++ piece

-- PAE: the number of pieces, and then the pieces
unfoldable pub pae : List (List ℕ) → List ℕ
pae pieces = le64 (length pieces) ++ flat_map encoded_piece pieces

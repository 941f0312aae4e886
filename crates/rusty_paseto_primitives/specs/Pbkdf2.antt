-- PBKDF2 (RFC 8018, section 5.2) with HMAC-SHA384 as its pseudorandom function, whose output has hLen = 48 bytes.
use Rattle.std.specs.Prelude.{ℕ, zero, suc, ◌-◌, ◌*◌, ◌^◌, List, ◌++◌, slice_index, take}
use Rattle.std.specs.Int.{div_ceil, to_be_bytes, w32}
use Rattle.rusty_paseto_primitives.specs.Bytes.{joined}
use Rattle.rusty_paseto_primitives.specs.Hmac.{hmac}
use Rattle.rusty_paseto_primitives.specs.Keystream.{xored}

-- U_1 is of the salt and INT (i), the number i of the block in four bytes; each later one is of the one before it (step 3).
-- This is U_(j + 1)
unfoldable pub output : List ℕ → List ℕ → ℕ → ℕ → List ℕ
output password salt i zero = hmac password (salt ++ to_be_bytes w32 i)
output password salt i (suc j) = hmac password (output password salt i j)

-- the exclusive or of U_1 to U_(j + 1)
unfoldable pub mixed : List ℕ → List ℕ → ℕ → ℕ → List ℕ
mixed password salt i zero = output password salt i zero
mixed password salt i (suc j) = xored (slice_index (output password salt i (suc j))) (mixed password salt i j)

-- T_i, by so many iterations, of which there is always one (step 3)
unfoldable pub block : List ℕ → List ℕ → ℕ → ℕ → List ℕ
block password salt iterations i = mixed password salt i (iterations - 1)

-- how many bytes a derived key has at most (step 1)
abbrev pub longest : ℕ
longest = (2 ^ 32 - 1) * 48

-- DK: the first n bytes of as many blocks as they need, T_1 and so on (steps 2 and 4)
unfoldable pub derived_key : List ℕ → List ℕ → ℕ → ℕ → List ℕ
derived_key password salt iterations n = take n (joined (block password salt iterations) (div_ceil n 48))

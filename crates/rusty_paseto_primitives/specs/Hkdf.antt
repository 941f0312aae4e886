-- HKDF (RFC 5869) with HMAC-SHA384 on lists of bytes.
use Rattle.std.specs.Prelude.{ℕ, zero, suc, ◌+◌, List, [], ◌∷◌, ◌++◌, take, replicate}
use Rattle.std.specs.Int.{div_ceil}
use Rattle.rusty_paseto_primitives.specs.Bytes.{joined}
use Rattle.rusty_paseto_primitives.specs.Hmac.{hmac}

-- the salt, where an empty one stands for as many zeros as a digest has bytes (2.2)
abbrev pub salt_or_zeros : List ℕ → List ℕ
salt_or_zeros [] = replicate 48 0
salt_or_zeros (b ∷ salt) = b ∷ salt

-- the pseudorandom key of a salt and the input keying material (2.2)
unfoldable pub hkdf_extract : List ℕ → List ℕ → List ℕ
hkdf_extract salt material = hmac (salt_or_zeros salt) material

-- T(n): T(0) is empty, and each later one is made of the one before it, the info and its number as a
-- byte (2.3)
unfoldable pub expansion_block : List ℕ → List ℕ → ℕ → List ℕ
expansion_block prk info zero = []
expansion_block prk info (suc n) = hmac prk (expansion_block prk info n ++ info ++ (n + 1) ∷ [])

-- the first n bytes of as many blocks as they need, T(1) and so on, where n is at most 255 * 48 (2.3)
unfoldable pub hkdf_expand : List ℕ → List ℕ → ℕ → List ℕ
hkdf_expand prk info n = take n (joined (expansion_block prk info) (div_ceil n 48))

-- n bytes from a salt, the input keying material and the info (2)
unfoldable pub hkdf : List ℕ → List ℕ → List ℕ → ℕ → List ℕ
hkdf salt material info n = hkdf_expand (hkdf_extract salt material) info n

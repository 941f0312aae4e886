-- The length of an expansion, and that it is a list of bytes.
use Rattle.std.proofs.Common.{◌≡◌, ℕ, zero, suc, List, length}
use Rattle.std.specs.Int.{div_ceil}
use Rattle.rusty_paseto_primitives.specs.Bytes.{IsBytes, joined}
use Rattle.rusty_paseto_primitives.specs.Hkdf.{expansion_block, hkdf, hkdf_expand, hkdf_extract}
use Rattle.rusty_paseto_primitives.proofs.ByteLists.{IsBytes-append, IsBytes-nil, IsBytes-take}
use Rattle.rusty_paseto_primitives.proofs.HmacLengths.{length-hmac, IsBytes-hmac}
use Rattle.rusty_paseto_primitives.proofs.JoinedBlocks.{length-taken}

-- each block but T(0) has 48 bytes
pub length-expansion_block : (prk info : List ℕ) (n : ℕ) → length (expansion_block prk info (suc n)) ≡ 48
unfolding expansion_block
length-expansion_block prk info n = length-hmac prk _

-- an expansion has the length that was asked for
pub length-hkdf_expand : (prk info : List ℕ) (n : ℕ) → length (hkdf_expand prk info n) ≡ n
unfolding hkdf_expand
length-hkdf_expand prk info n = length-taken (expansion_block prk info) n (length-expansion_block prk info)

IsBytes-expansion_block : (prk info : List ℕ) (n : ℕ) → IsBytes (expansion_block prk info n)
unfolding expansion_block
IsBytes-expansion_block prk info zero = IsBytes-nil
IsBytes-expansion_block prk info (suc n) = IsBytes-hmac prk _

IsBytes-expansion : (prk info : List ℕ) (n : ℕ) → IsBytes (joined (expansion_block prk info) n)
unfolding joined
IsBytes-expansion prk info zero = IsBytes-nil
IsBytes-expansion prk info (suc n) =
    IsBytes-append (joined (expansion_block prk info) n) _ (IsBytes-expansion prk info n) (IsBytes-expansion_block prk info (suc n))

-- an expansion is a list of bytes
pub IsBytes-hkdf_expand : (prk info : List ℕ) (n : ℕ) → IsBytes (hkdf_expand prk info n)
unfolding hkdf_expand
IsBytes-hkdf_expand prk info n = IsBytes-take n _ (IsBytes-expansion prk info (div_ceil n 48))

pub IsBytes-hkdf : (salt material info : List ℕ) (n : ℕ) → IsBytes (hkdf salt material info n)
unfolding hkdf
IsBytes-hkdf salt material info n = IsBytes-hkdf_expand (hkdf_extract salt material) info n

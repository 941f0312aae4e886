-- The length of a code, and that it is a list of bytes.
use Rattle.std.proofs.Common.{◌≡◌, ℕ, zero, suc, List, length, slice_index}
use Rattle.std.specs.Int.{byte_at, bytes_high_first}
use Rattle.sha2.specs.Sha512.{digest_bytes, sha384}
use Rattle.sha2.proofs.Facts512.{length-sha384}
use Rattle.rusty_paseto_primitives.specs.Bytes.{IsBytes}
use Rattle.rusty_paseto_primitives.specs.Hmac.{hmac, outer_input}
use Rattle.rusty_paseto_primitives.proofs.ByteLists.{IsBytes_cons, IsBytes-append, IsBytes-nil, IsBytes-take, byte_at-lt}

-- a code has 48 bytes
pub length-hmac : (key message : List ℕ) → length (hmac key message) ≡ 48
unfolding hmac
length-hmac key message = length-sha384 (outer_input key message)

pub IsBytes-bytes_high_first : (k n : ℕ) → IsBytes (bytes_high_first k n)
IsBytes-bytes_high_first zero n = IsBytes-nil
IsBytes-bytes_high_first (suc k) n = IsBytes_cons (byte_at k n) _ (byte_at-lt k n) (IsBytes-bytes_high_first k n)

IsBytes-digest_bytes : (h : List ℕ) (n : ℕ) → IsBytes (digest_bytes h n)
unfolding digest_bytes
IsBytes-digest_bytes h zero = IsBytes-nil
IsBytes-digest_bytes h (suc n) = IsBytes-append (digest_bytes h n) _ (IsBytes-digest_bytes h n) (IsBytes-bytes_high_first 8 (slice_index h n))

-- a digest is a list of bytes
pub IsBytes-sha384 : (message : List ℕ) → IsBytes (sha384 message)
unfolding sha384
IsBytes-sha384 message = IsBytes-take 48 _ (IsBytes-digest_bytes _ 8)

-- a code is a list of bytes
pub IsBytes-hmac : (key message : List ℕ) → IsBytes (hmac key message)
unfolding hmac
IsBytes-hmac key message = IsBytes-sha384 (outer_input key message)

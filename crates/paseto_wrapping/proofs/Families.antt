-- What holds of both families.
use Rattle.std.proofs.Common.{◌≡◌, ℕ, List, length, lit≤}
use Rattle.rusty_paseto_primitives.proofs.AesBlocks.{aes256_ctr_stream-lt}
use Rattle.rusty_paseto_primitives.proofs.StreamBlocks.{xchacha20_stream-lt}
use Rattle.rusty_paseto_primitives.proofs.Blake2Lengths.{length-blake2b, IsBytes-blake2b}
use Rattle.rusty_paseto_primitives.proofs.HmacLengths.{length-hmac, IsBytes-hmac}
use Rattle.rusty_paseto_primitives.proofs.Xored.{length-xored, xored-xored, IsBytes-xored}
use Rattle.rusty_paseto_primitives.specs.Bytes.{IsBytes}
use Rattle.paseto_wrapping.specs.declared.family.Family.{Family}
use Rattle.paseto_wrapping.specs.declared.family.Family.TheVariants.{Nist, Sodium}
use Rattle.paseto_wrapping.specs.Family.{encrypted, tag, tag_length}

-- encryption undoes itself
pub encrypted-encrypted : (family : Family) (key nonce bytes : List ℕ) → encrypted family key nonce (encrypted family key nonce bytes) ≡ bytes
unfolding encrypted
encrypted-encrypted Nist key nonce bytes = xored-xored _ bytes
encrypted-encrypted Sodium key nonce bytes = xored-xored _ bytes

-- bytes encrypted under a key of bytes are bytes, as many
pub IsBytes-encrypted : (family : Family) (key nonce bytes : List ℕ) → IsBytes key → IsBytes bytes → IsBytes (encrypted family key nonce bytes)
unfolding encrypted
IsBytes-encrypted Nist key nonce bytes of_key h = IsBytes-xored _ bytes (λ i. aes256_ctr_stream-lt key nonce i of_key) h
IsBytes-encrypted Sodium key nonce bytes of_key h = IsBytes-xored _ bytes (xchacha20_stream-lt key nonce) h

pub length-encrypted : (family : Family) (key nonce bytes : List ℕ) → length (encrypted family key nonce bytes) ≡ length bytes
unfolding encrypted
length-encrypted Nist key nonce bytes = length-xored _ bytes
length-encrypted Sodium key nonce bytes = length-xored _ bytes

-- a tag is bytes, so many
pub length-tag : (family : Family) (key message : List ℕ) → length (tag family key message) ≡ tag_length family
unfolding tag
length-tag Nist key message = length-hmac key message
length-tag Sodium key message = length-blake2b key 32 message (lit≤ tt)

pub IsBytes-tag : (family : Family) (key message : List ℕ) → IsBytes (tag family key message)
unfolding tag
IsBytes-tag Nist key message = IsBytes-hmac key message
IsBytes-tag Sodium key message = IsBytes-blake2b key 32 message

-- What the versions differ in: 1 and 3 are of the NIST family, 2 and 4 of the Sodium family.
use Rattle.std.specs.Prelude.{ℕ, List}
use Rattle.rusty_paseto_primitives.specs.Hmac.{hmac}
use Rattle.rusty_paseto_primitives.specs.Keystream.{xored}
use Rattle.rusty_paseto_primitives.specs.Aes.Counter.{aes256_ctr_stream}
use Rattle.rusty_paseto_primitives.specs.Blake2.Keyed.{blake2b}
use Rattle.rusty_paseto_primitives.specs.ChaCha.Stream.{xchacha20_stream}
use Rattle.rusty_paseto_paserk.specs.declared.header.PaserkVersion.{PaserkVersion}
use Rattle.rusty_paseto_paserk.specs.declared.header.PaserkVersion.TheVariants.{V1, V2, V3, V4}
use Rattle.paseto_wrapping.specs.declared.family.Family.{Family}
use Rattle.paseto_wrapping.specs.declared.family.Family.TheVariants.{Nist, Sodium}
use Rattle.paseto_wrapping.specs.declared.family.Digest.{Digest}
use Rattle.paseto_wrapping.specs.declared.family.Digest.TheVariants.{Of32, Of48, Of56}

-- the family of a version
abbrev pub family_of : PaserkVersion → Family
family_of V1 = Nist
family_of V2 = Sodium
family_of V3 = Nist
family_of V4 = Sodium

-- bytes encrypted, or decrypted: by AES-256 in counter mode, where the nonce is the first counter block, or by XChaCha20
unfoldable pub encrypted : Family → List ℕ → List ℕ → List ℕ → List ℕ
encrypted Nist key nonce bytes = xored (aes256_ctr_stream key nonce) bytes
encrypted Sodium key nonce bytes = xored (xchacha20_stream key nonce) bytes

-- how many bytes the nonce has
abbrev pub nonce_length : Family → ℕ
nonce_length Nist = 16
nonce_length Sodium = 24

-- the tag of a message: HMAC-SHA384, or BLAKE2b of 32 bytes with a key
unfoldable pub tag : Family → List ℕ → List ℕ → List ℕ
tag Nist key message = hmac key message
tag Sodium key message = blake2b key 32 message

-- how many bytes the tag has
abbrev pub tag_length : Family → ℕ
tag_length Nist = 48
tag_length Sodium = 32

-- the bytes of a digest
abbrev pub digest_bytes : Digest → List ℕ
digest_bytes (Of32 bytes) = bytes
digest_bytes (Of48 bytes) = bytes
digest_bytes (Of56 bytes) = bytes

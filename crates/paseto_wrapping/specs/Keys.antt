-- Private keys as they are wrapped (PASERK specification, types `secret-wrap` and `secret-pw`). In version 1 a private key is
-- a PrivateKeyInfo, and what is wrapped of it is its RSAPrivateKey, as what stands in its text of type `secret`.
use Rattle.std.specs.Prelude.{◌≡◌, ⊤, ℕ, List, length}
use Rattle.paseto_rsa.specs.Keys.{IsPrivate, rsa_private}
use Rattle.rusty_paseto_paserk.specs.Rsa.{IsSecretForm}
use Rattle.rusty_paseto_paserk.specs.declared.header.PaserkVersion.{PaserkVersion}
use Rattle.rusty_paseto_paserk.specs.declared.header.PaserkVersion.TheVariants.{V1, V2, V3, V4}
use Rattle.paseto_wrapping.specs.declared.error.WrapError.{WrapError}
use Rattle.paseto_wrapping.specs.declared.error.WrapError.TheVariants.{InvalidKey}

-- bytes are a private key of a version: in version 1 one of RSA of 2048 bits, and in the others so many bytes
abbrev pub IsPrivateKey : PaserkVersion → List ℕ → Type 0
IsPrivateKey V1 key = IsPrivate key
IsPrivateKey V2 key = length key ≡ 64
IsPrivateKey V3 key = length key ≡ 48
IsPrivateKey V4 key = length key ≡ 64

-- ---- wrapping

-- what is wrapped: in version 1 a private key, and in the others any bytes
abbrev pub IsWrappable : PaserkVersion → List ℕ → Type 0
IsWrappable V1 key = IsPrivate key
IsWrappable V2 key = ⊤
IsWrappable V3 key = ⊤
IsWrappable V4 key = ⊤

-- the octets that are wrapped for a private key
abbrev pub wrapped_form : PaserkVersion → List ℕ → List ℕ
wrapped_form V1 key = rsa_private key
wrapped_form V2 key = key
wrapped_form V3 key = key
wrapped_form V4 key = key

-- why a private key is not wrapped: it is none of version 1, and behind that why its octets are not wrapped (IsFault)
abbrev pub IsPrivateFault : PaserkVersion → List ℕ → (WrapError → Type 0) → WrapError → Type 0
IsPrivateFault version key IsFault InvalidKey = ¬ IsWrappable version key
IsPrivateFault version key IsFault error = IsWrappable version key × IsFault error

-- ---- unwrapping

-- the octets that were wrapped for a private key: in version 1 its RSAPrivateKey, or the PrivateKeyInfo itself
abbrev pub IsWrappedForm : PaserkVersion → List ℕ → List ℕ → Type 0
IsWrappedForm V1 octets key = IsSecretForm octets key
IsWrappedForm V2 octets key = (octets ≡ key) × (length key ≡ 64)
IsWrappedForm V3 octets key = (octets ≡ key) × (length key ≡ 48)
IsWrappedForm V4 octets key = (octets ≡ key) × (length key ≡ 64)

-- What is wrapped is unwrapped: the text of a key holds that key. The contracts of reading answer whatever a text holds. And
-- a text that two wrapping keys open shows a collision.
use Rattle.std.specs.Prelude.{◌≡◌, ℕ, List, drop, length, take}
use Rattle.base64.specs.GeneralPurpose.{IsBytes}
use Rattle.rusty_paseto_paserk.specs.declared.header.PaserkVersion.{PaserkVersion}
use Rattle.rusty_paseto_paserk.specs.declared.header.PaserkVersion.TheVariants.{V3}
use Rattle.paseto_ed25519.specs.Ed25519.{IsOwn}
use Rattle.paseto_p384.specs.P384.{IsPrivate, p384_public}
use Rattle.paseto_x25519.specs.Laws.{IsSecretKey}
use Rattle.paseto_wrapping.specs.declared.error.WrapError.{WrapError}
use Rattle.paseto_wrapping.specs.declared.family.Family.TheVariants.{Nist}
use Rattle.paseto_wrapping.specs.declared.header.WrappedType.{WrappedType}
use Rattle.paseto_wrapping.specs.declared.header.WrappedType.TheVariants.{Seal, SecretPassword, SecretWrap}
use Rattle.paseto_wrapping.specs.declared.cost.PasswordCost.{PasswordCost}
use Rattle.paseto_wrapping.specs.Error.{IsMemory}
use Rattle.paseto_wrapping.specs.Family.{family_of, nonce_length, tag_length}
use Rattle.paseto_wrapping.specs.Keys.{IsPrivateKey, IsWrappedForm, wrapped_form}
use Rattle.paseto_wrapping.specs.Password.{IsGranted, IsProtected, IsShort, protected, salt_length}
use Rattle.paseto_wrapping.specs.Pie.{IsNonce, IsPie, pie, t}
use Rattle.paseto_wrapping.specs.Reading.{InText, WrapsForm}
use Rattle.paseto_wrapping.specs.Sealing.{IsSealFault, IsSealed, SealsFor}

-- under a wrapping key, by any nonce
abbrev pub WrappedUnwrap : Type 0
WrappedUnwrap = (version : PaserkVersion) (kind : WrappedType) (wk n ptk : List ℕ) → IsNonce n → IsBytes ptk
    → InText version kind (IsPie version kind wk) (pie version kind wk n ptk) ptk

-- a private key under a wrapping key, by any nonce
abbrev pub PrivateWrappedUnwrap : Type 0
PrivateWrappedUnwrap = (version : PaserkVersion) (wk n key : List ℕ) → IsNonce n → IsBytes key → IsPrivateKey version key
    → WrapsForm (IsWrappedForm version) (InText version SecretWrap (IsPie version SecretWrap wk))
    (pie version SecretWrap wk n (wrapped_form version key)) key

-- one message has the same tag under the authentication keys that two wrapping keys derive from one nonce
abbrev pub IsTagOfBoth : PaserkVersion → WrappedType → List ℕ → List ℕ → List ℕ → Type 0
IsTagOfBoth version kind wk other tag =
    (n : List ℕ) × (body : List ℕ) × IsNonce n × (tag ≡ t version kind wk n body) × (tag ≡ t version kind other n body)

-- a payload that two wrapping keys open has such a tag, the first bytes of the payload
abbrev pub WrappedCommit : Type 0
WrappedCommit = (version : PaserkVersion) (kind : WrappedType) (wk other input ptk found : List ℕ)
    → IsPie version kind wk input ptk → IsPie version kind other input found
    → IsTagOfBoth version kind wk other (take (tag_length (family_of version)) input)

-- a payload holds one key under a wrapping key
abbrev pub WrappedOnce : Type 0
WrappedOnce = (version : PaserkVersion) (kind : WrappedType) (wk input ptk found : List ℕ)
    → IsPie version kind wk input ptk → IsPie version kind wk input found → ptk ≡ found

-- under a password, by any salt, nonce, and cost that is granted
abbrev pub ProtectedUnwrap : Type 0
ProtectedUnwrap = (version : PaserkVersion) (kind : WrappedType) (password : List ℕ) (most cost : PasswordCost) (s n ptk : List ℕ)
    → IsShort password → IsGranted (family_of version) most cost
    → IsBytes s × (length s ≡ salt_length (family_of version)) → IsBytes n × (length n ≡ nonce_length (family_of version)) → IsBytes ptk
    → InText version kind (IsProtected version kind password most) (protected version kind password cost s n ptk) ptk

-- a private key under a password, by any salt, nonce, and cost that is granted
abbrev pub PrivateProtectedUnwrap : Type 0
PrivateProtectedUnwrap = (version : PaserkVersion) (password : List ℕ) (most cost : PasswordCost) (s n key : List ℕ)
    → IsShort password → IsGranted (family_of version) most cost
    → IsBytes s × (length s ≡ salt_length (family_of version)) → IsBytes n × (length n ≡ nonce_length (family_of version)) → IsBytes key
    → IsPrivateKey version key
    → WrapsForm (IsWrappedForm version) (InText version SecretPassword (IsProtected version SecretPassword password most))
    (protected version SecretPassword password cost s n (wrapped_form version key)) key

-- in version 3, sealed to the public key of a private key
abbrev pub SealedUnseal : Type 0
SealedUnseal = (private ephemeral key text : List ℕ) → IsPrivate private → IsBytes key × (length key ≡ 32)
    → IsSealed V3 (p384_public private) ephemeral key text
    → InText V3 Seal (SealsFor Nist V3 private) text key

-- in version 3 nothing but memory keeps a key from being sealed to such a public key
abbrev pub OwnKeysSeal : Type 0
OwnKeysSeal = (private ephemeral : List ℕ) (error : WrapError) → IsPrivate private → IsPrivate ephemeral
    → IsSealFault Nist (p384_public private) ephemeral error → IsMemory error

-- in versions 2 and 4, sealed to the public half of a private key whose halves belong together, by any ephemeral secret key
abbrev pub SodiumSealedUnseal : PaserkVersion → Type 0
SodiumSealedUnseal version = (private ephemeral key text : List ℕ) → (length private ≡ 64) × IsOwn private → IsSecretKey ephemeral
    → IsBytes key × (length key ≡ 32) → IsSealed version (drop 32 private) ephemeral key text
    → InText version Seal (SealsFor (family_of version) version private) text key

-- in versions 2 and 4 nothing but memory keeps a key from being sealed to such a public key, by any ephemeral secret key
abbrev pub SodiumOwnKeysSeal : PaserkVersion → Type 0
SodiumOwnKeysSeal version = (private ephemeral : List ℕ) (error : WrapError) → (length private ≡ 64) × IsOwn private → IsSecretKey ephemeral
    → IsSealFault (family_of version) (drop 32 private) ephemeral error → IsMemory error

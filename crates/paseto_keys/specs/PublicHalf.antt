-- The public half of a private key.
use Rattle.std.specs.Prelude.{◌≡◌, ◌⊎◌, ℕ, List, length, Result, Err, IfOk, IfErr}
use Rattle.paseto_ed25519.specs.Ed25519.{IsOwn, partner}
use Rattle.paseto_p384.specs.P384.{IsPrivate, p384_public}
use Rattle.paseto_rsa.specs.Forms.{IsPublic as IsRsaPublic}
use Rattle.paseto_rsa.specs.Keys.{IsPrivate as IsRsaPrivate, rsa_public}
use Rattle.rusty_paseto_paserk.specs.Error.{IsMemory}
use Rattle.rusty_paseto_paserk.specs.declared.error.PaserkError.{PaserkError}
use Rattle.rusty_paseto_paserk.specs.declared.error.PaserkError.TheVariants.{InvalidKey, OtherType}
use Rattle.rusty_paseto_paserk.specs.declared.header.PaserkType.{PaserkType}
use Rattle.rusty_paseto_paserk.specs.declared.header.PaserkType.TheVariants.{Local, Secret, Public}
use Rattle.rusty_paseto_paserk.specs.declared.header.PaserkVersion.{PaserkVersion}
use Rattle.rusty_paseto_paserk.specs.declared.header.PaserkVersion.TheVariants.{V1, V2, V3, V4}
use Rattle.paseto_keys.specs.AnyKey.{KeyParts, key_parts, parts_of}
use Rattle.paseto_keys.specs.declared.any_key.AnyKey.{AnyKey}

-- a private key of Ed25519 whose last 32 bytes are the public key of the seed in front of them
abbrev pub IsEd25519 : List ℕ → Type 0
IsEd25519 private = (length private ≡ 64) × IsOwn private

-- the answer is the public half, where the private key has one
pub record IsHalf (version : PaserkVersion) (IsWhole : List ℕ → Type 0) (half_of : List ℕ → List ℕ) (private : List ℕ) (answer : Result AnyKey PaserkError) : Type 0 where
  pub ok : IfOk answer (λ key. IsWhole private × (parts_of key ≡ key_parts Public version (half_of private)))
  pub refused : IfErr answer (λ error. IsMemory error ⊎ ((error ≡ InvalidKey) × ¬ IsWhole private))

-- the same of a private key of version 1, whose public half is a valid key
pub record IsRsaHalf (private : List ℕ) (answer : Result AnyKey PaserkError) : Type 0 where
  pub ok : IfOk answer (λ key. IsRsaPrivate private × IsRsaPublic (rsa_public private)
      × (parts_of key ≡ key_parts Public V1 (rsa_public private)))
  pub refused : IfErr answer (λ error. IsMemory error ⊎ ((error ≡ InvalidKey) × ¬ IsRsaPrivate private))

-- the answer for a key: one of another type has no half
abbrev pub GivesHalfIn : PaserkType → PaserkVersion → List ℕ → Result AnyKey PaserkError → Type 0
GivesHalfIn Local version = λ bytes answer. answer ≡ Err (OtherType Local)
GivesHalfIn Public version = λ bytes answer. answer ≡ Err (OtherType Public)
GivesHalfIn Secret V1 = IsRsaHalf
GivesHalfIn Secret V2 = IsHalf V2 IsEd25519 partner
GivesHalfIn Secret V3 = IsHalf V3 IsPrivate p384_public
GivesHalfIn Secret V4 = IsHalf V4 IsEd25519 partner

abbrev pub GivesHalf : KeyParts → Result AnyKey PaserkError → Type 0
GivesHalf key = GivesHalfIn key.kind key.version key.bytes

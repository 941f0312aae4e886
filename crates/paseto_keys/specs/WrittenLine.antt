-- The line of a key of any version and type, as it is written.
use Rattle.std.specs.Prelude.{◌≡◌, ◌≢◌, ◌⊎◌, ℕ, List, length, Result, IfOk, IfErr, String, string_bytes}
use Rattle.std.specs.Global.{Global}
use Rattle.paseto_rsa.specs.Forms.{IsPublic as IsRsaPublic}
use Rattle.paseto_rsa.specs.Keys.{IsPrivate as IsRsaPrivate}
use Rattle.rusty_paseto_paserk.specs.Rsa.{public_text, secret_text}
use Rattle.rusty_paseto_paserk.specs.Text.{writing}
use Rattle.rusty_paseto_paserk.specs.declared.error.PaserkError.TheVariants.{InvalidKey}
use Rattle.rusty_paseto_paserk.specs.declared.header.PaserkType.{PaserkType}
use Rattle.rusty_paseto_paserk.specs.declared.header.PaserkType.TheVariants.{Local, Secret, Public}
use Rattle.rusty_paseto_paserk.specs.declared.header.PaserkVersion.{PaserkVersion}
use Rattle.rusty_paseto_paserk.specs.declared.header.PaserkVersion.TheVariants.{V1, V2, V3, V4}
use Rattle.paseto_key_files.specs.Error.{IsMemory}
use Rattle.paseto_key_files.specs.declared.error.KeyFileError.{KeyFileError}
use Rattle.paseto_key_files.specs.declared.error.KeyFileError.TheVariants.{Paserk}
use Rattle.paseto_keys.specs.AnyKey.{KeyParts}

-- the answer for a key is a line of it, or else why there is none, or that memory was refused
pub record WritesIn (IsLine : List ℕ → Type 0) (HasNone : KeyFileError → Type 0) (answer : Result (String Global) KeyFileError) : Type 0 where
  pub ok : IfOk answer (λ line. IsLine (string_bytes line))
  pub refused : IfErr answer (λ error. IsMemory error ⊎ HasNone error)

-- a private key has not so many bytes
abbrev pub HasNoLength : ℕ → List ℕ → KeyFileError → Type 0
HasNoLength n bytes error = (error ≡ Paserk InvalidKey) × (length bytes ≢ n)

-- bytes are no key of version 1
abbrev pub IsNoKey : (List ℕ → Type 0) → List ℕ → KeyFileError → Type 0
IsNoKey IsKey bytes error = (error ≡ Paserk InvalidKey) × ¬ IsKey bytes

-- the line of these bytes, a key of a type and a version
abbrev pub IsWrittenIn : PaserkType → PaserkVersion → List ℕ → List ℕ → Type 0
IsWrittenIn Local version = λ bytes line. line ≡ writing version Local bytes
IsWrittenIn Secret V1 = λ bytes line. IsRsaPrivate bytes × (line ≡ secret_text bytes)
IsWrittenIn Secret V2 = λ bytes line. (length bytes ≡ 64) × (line ≡ writing V2 Secret bytes)
IsWrittenIn Secret V3 = λ bytes line. (length bytes ≡ 48) × (line ≡ writing V3 Secret bytes)
IsWrittenIn Secret V4 = λ bytes line. (length bytes ≡ 64) × (line ≡ writing V4 Secret bytes)
IsWrittenIn Public V1 = λ bytes line. IsRsaPublic bytes × (line ≡ public_text bytes)
IsWrittenIn Public V2 = λ bytes line. line ≡ writing V2 Public bytes
IsWrittenIn Public V3 = λ bytes line. line ≡ writing V3 Public bytes
IsWrittenIn Public V4 = λ bytes line. line ≡ writing V4 Public bytes

-- why they have none
abbrev pub HasNoLine : PaserkType → PaserkVersion → List ℕ → KeyFileError → Type 0
HasNoLine Local version = λ bytes error. ⊥
HasNoLine Secret V1 = IsNoKey IsRsaPrivate
HasNoLine Secret V2 = HasNoLength 64
HasNoLine Secret V3 = HasNoLength 48
HasNoLine Secret V4 = HasNoLength 64
HasNoLine Public V1 = IsNoKey IsRsaPublic
HasNoLine Public V2 = λ bytes error. ⊥
HasNoLine Public V3 = λ bytes error. ⊥
HasNoLine Public V4 = λ bytes error. ⊥

-- the answer for a key
abbrev pub WritesLine : KeyParts → Result (String Global) KeyFileError → Type 0
WritesLine key = WritesIn (IsWrittenIn key.kind key.version key.bytes) (HasNoLine key.kind key.version key.bytes)

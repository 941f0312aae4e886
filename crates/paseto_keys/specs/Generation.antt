-- New keys, of what is drawn for them.
use Rattle.std.specs.Prelude.{◌≡◌, ◌⊎◌, ℕ, List, length, ◌++◌, Result, Err, IfOk, IfErr}
use Rattle.paseto_ed25519.specs.Ed25519.{ed25519_public}
use Rattle.paseto_p384.specs.P384.{IsPrivate}
use Rattle.rusty_paseto_parts.specs.declared.error.PasetoError.TheVariants.{KeyRejected}
use Rattle.rusty_paseto_paserk.specs.declared.header.PaserkType.{PaserkType}
use Rattle.rusty_paseto_paserk.specs.declared.header.PaserkType.TheVariants.{Local, Secret, Public}
use Rattle.rusty_paseto_paserk.specs.declared.header.PaserkVersion.{PaserkVersion}
use Rattle.rusty_paseto_paserk.specs.declared.header.PaserkVersion.TheVariants.{V1, V2, V3, V4}
use Rattle.paseto_keys.specs.AnyKey.{key_parts, parts_of}
use Rattle.paseto_keys.specs.Error.{IsMemory}
use Rattle.paseto_keys.specs.declared.any_key.AnyKey.{AnyKey}
use Rattle.paseto_keys.specs.declared.error.KeyError.{KeyError}
use Rattle.paseto_keys.specs.declared.error.KeyError.TheVariants.{OtherType, OtherVersion, Random, Refused}

-- a key for local tokens is what is drawn
abbrev pub IsNewLocal : List ℕ → List ℕ → Type 0
IsNewLocal drawn key = (length drawn ≡ 32) × (key ≡ drawn)

-- a private key of Ed25519 is the seed that is drawn, and its public key
abbrev pub IsNewEd25519 : List ℕ → List ℕ → Type 0
IsNewEd25519 drawn key = (length drawn ≡ 32) × (key ≡ drawn ++ ed25519_public drawn)

-- a private key of P-384 is what is drawn
abbrev pub IsNewP384 : List ℕ → List ℕ → Type 0
IsNewP384 drawn key = IsPrivate drawn × (key ≡ drawn)

-- what is drawn always makes a key
abbrev pub IsNoKey : List ℕ → Type 0
IsNoKey drawn = ⊥

-- 48 bytes are no private key of P-384
abbrev pub IsNoP384 : List ℕ → Type 0
IsNoP384 drawn = (length drawn ≡ 48) × (¬ IsPrivate drawn)

-- why there is no key: memory was refused, the generator failed, or what is drawn makes none
abbrev pub IsNoNewKey : (List ℕ → Type 0) → (List ℕ → Type 0) → Type 0 → KeyError → Type 0
IsNoNewKey MakesNone IsDrawn Failure error =
    IsMemory error
    ⊎ (((error ≡ Random) × Failure) ⊎ ((error ≡ Refused KeyRejected) × ((drawn : List ℕ) × IsDrawn drawn × MakesNone drawn)))

-- the answer is a key of this type and this version, which is made of what is drawn, or why there is none
pub record IsNew (kind : PaserkType) (version : PaserkVersion) (Makes : List ℕ → List ℕ → Type 0) (MakesNone : List ℕ → Type 0)
    (IsDrawn : List ℕ → Type 0) (Failure : Type 0) (answer : Result AnyKey KeyError) : Type 0 where
  pub made : IfOk answer (λ key. (drawn : List ℕ) × (bytes : List ℕ) × IsDrawn drawn × Makes drawn bytes × (parts_of key ≡ key_parts kind version bytes))
  pub none : IfErr answer (IsNoNewKey MakesNone IsDrawn Failure)

-- the answer for a type and a version: public keys, and private ones of version 1, are not generated, and nothing is drawn
abbrev pub Generates : PaserkType → PaserkVersion → (List ℕ → Type 0) → Type 0 → Type 0 → Result AnyKey KeyError → Type 0
Generates Local version IsDrawn Failure IsNotCalled = IsNew Local version IsNewLocal IsNoKey IsDrawn Failure
Generates Secret V1 IsDrawn Failure IsNotCalled = λ answer. (answer ≡ Err (OtherVersion V1)) × IsNotCalled
Generates Secret V2 IsDrawn Failure IsNotCalled = IsNew Secret V2 IsNewEd25519 IsNoKey IsDrawn Failure
Generates Secret V3 IsDrawn Failure IsNotCalled = IsNew Secret V3 IsNewP384 IsNoP384 IsDrawn Failure
Generates Secret V4 IsDrawn Failure IsNotCalled = IsNew Secret V4 IsNewEd25519 IsNoKey IsDrawn Failure
Generates Public version IsDrawn Failure IsNotCalled = λ answer. (answer ≡ Err (OtherType Public)) × IsNotCalled

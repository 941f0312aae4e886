-- The key of a line. A line is what programs store of a key: its text in PASERK.
use Rattle.std.specs.Prelude.{◌≡◌, ◌⊎◌, ℕ, List, Result, IfOk, IfErr, MatchResult}
use Rattle.rusty_paseto_paserk.specs.Header.{HasHeader}
use Rattle.rusty_paseto_paserk.specs.declared.header.PaserkType.{PaserkType}
use Rattle.rusty_paseto_paserk.specs.declared.header.PaserkType.TheVariants.{Local, Secret, Public}
use Rattle.rusty_paseto_paserk.specs.declared.header.PaserkVersion.{PaserkVersion}
use Rattle.rusty_paseto_paserk.specs.declared.header.PaserkVersion.TheVariants.{V1, V2, V3, V4}
use Rattle.paseto_key_files.specs.Error.{IsMemory}
use Rattle.paseto_key_files.specs.Line.{IsBeginFault, IsLocalKey, IsPaserkFault, IsPrivateFault, IsPrivateKey, IsPrivateLine, IsPublicKey, IsRsaPublicFault, IsRsaPublicLine, IsWritingOf}
use Rattle.paseto_key_files.specs.declared.error.KeyFileError.{KeyFileError}
use Rattle.paseto_keys.specs.AnyKey.{KeyParts, parts_of}
use Rattle.paseto_keys.specs.declared.any_key.AnyKey.{AnyKey}

-- the answer is the key that is meant, exactly where there is one
pub record GivesKey (IsMeant : KeyParts → Type 0) (IsFault : KeyFileError → Type 0) (answer : Result AnyKey KeyFileError) : Type 0 where
  pub found : IfOk answer (λ key. IsMeant (parts_of key))
  pub read : (key : KeyParts) → IsMeant key → MatchResult answer (λ found. parts_of found ≡ key) IsMemory
  pub refused : IfErr answer IsFault

-- the key has this type and this version, and the line is of its bytes
pub record IsOf (kind : PaserkType) (version : PaserkVersion) (IsLine : List ℕ → List ℕ → Type 0) (line : List ℕ) (key : KeyParts) : Type 0 where
  pub kind_is : key.kind ≡ kind
  pub version_is : key.version ≡ version
  pub is_line : IsLine key.bytes line

-- the line is the text in PASERK of these bytes, a key of a type and a version
abbrev pub IsPaserkOf : PaserkType → PaserkVersion → List ℕ → List ℕ → Type 0
IsPaserkOf Local version = IsWritingOf version Local IsLocalKey
IsPaserkOf Secret V1 = IsPrivateLine V1
IsPaserkOf Secret V2 = IsWritingOf V2 Secret (IsPrivateKey V2)
IsPaserkOf Secret V3 = IsWritingOf V3 Secret (IsPrivateKey V3)
IsPaserkOf Secret V4 = IsWritingOf V4 Secret (IsPrivateKey V4)
IsPaserkOf Public V1 = IsRsaPublicLine
IsPaserkOf Public V2 = IsWritingOf V2 Public (IsPublicKey V2)
IsPaserkOf Public V3 = IsWritingOf V3 Public (IsPublicKey V3)
IsPaserkOf Public V4 = IsWritingOf V4 Public (IsPublicKey V4)

-- why a line that begins as a key of a type and a version is that of none
abbrev pub IsPaserkFaultOf : PaserkType → PaserkVersion → List ℕ → KeyFileError → Type 0
IsPaserkFaultOf Local version = IsPaserkFault version Local IsLocalKey
IsPaserkFaultOf Secret V1 = IsPrivateFault V1
IsPaserkFaultOf Secret V2 = IsPaserkFault V2 Secret (IsPrivateKey V2)
IsPaserkFaultOf Secret V3 = IsPaserkFault V3 Secret (IsPrivateKey V3)
IsPaserkFaultOf Secret V4 = IsPaserkFault V4 Secret (IsPrivateKey V4)
IsPaserkFaultOf Public V1 = IsRsaPublicFault
IsPaserkFaultOf Public V2 = IsPaserkFault V2 Public (IsPublicKey V2)
IsPaserkFaultOf Public V3 = IsPaserkFault V3 Public (IsPublicKey V3)
IsPaserkFaultOf Public V4 = IsPaserkFault V4 Public (IsPublicKey V4)

-- the line is that of the key, which has this type and this version
abbrev pub IsPaserkIn : PaserkType → PaserkVersion → List ℕ → KeyParts → Type 0
IsPaserkIn kind version = IsOf kind version (IsPaserkOf kind version)

-- the line is that of the key
abbrev pub IsLineOf : List ℕ → KeyParts → Type 0
IsLineOf line key = IsPaserkOf key.kind key.version key.bytes line

-- why it is that of none: it begins as no key, or what follows is none
abbrev pub IsLineFault : List ℕ → KeyFileError → Type 0
IsLineFault line error =
    IsBeginFault line error
    ⊎ ((version : PaserkVersion) × (kind : PaserkType) × HasHeader version kind line × IsPaserkFaultOf kind version line error)

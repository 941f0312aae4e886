-- The lines of keys: the text of a key in PASERK, as programs keep it.
use Rattle.std.specs.Prelude.{◌≡◌, ◌⊎◌, ⊤, ℕ, ◌==◌, ◌&&◌, List, length, if◌then◌else◌, IsTrue, Result, IfOk, IfErr, MatchResult, string_bytes}
use Rattle.std.specs.Io.BufRead.{ends_with_byte, strip_last}
use Rattle.std.specs.declared.alloc.Global.{Global}
use Rattle.std.specs.declared.string.String.{String}
use Rattle.base64.specs.GeneralPurpose.{IsBytes}
use Rattle.paseto_rsa.specs.Forms.{IsPublic as IsRsaPublic}
use Rattle.paseto_rsa.specs.Keys.{IsPrivate as IsRsaPrivate}
use Rattle.paseto_wrapping.specs.declared.error.WrapError.TheVariants.{InvalidKey}
use Rattle.rusty_paseto_parts.specs.PublicKey.{is_compressed}
use Rattle.rusty_paseto_paserk.specs.declared.error.PaserkError.TheVariants.{NoKey}
use Rattle.rusty_paseto_paserk.specs.declared.header.PaserkVersion.{PaserkVersion}
use Rattle.rusty_paseto_paserk.specs.declared.header.PaserkVersion.TheVariants.{V1, V2, V3, V4}
use Rattle.rusty_paseto_paserk.specs.declared.header.PaserkType.{PaserkType}
use Rattle.rusty_paseto_paserk.specs.declared.header.PaserkType.TheVariants.{Local, Secret, Public}
use Rattle.rusty_paseto_paserk.specs.Header.{HasHeader, HasNoHeader}
use Rattle.rusty_paseto_paserk.specs.Rsa.{IsPublicForm, IsSecretForm, secret_text}
use Rattle.rusty_paseto_paserk.specs.Text.{IsKeyFault, writing}
use Rattle.paseto_key_files.specs.declared.error.KeyFileError.{KeyFileError}
use Rattle.paseto_key_files.specs.declared.error.KeyFileError.TheVariants.{Memory, Paserk, PublicKey, Wrap}
use Rattle.paseto_key_files.specs.Error.{IsMemory}

-- ---- keys

-- bytes are a key for local tokens
abbrev pub IsLocalKey : List ℕ → Type 0
IsLocalKey key = length key ≡ 32

-- bytes are a private key of a version: in version 1 a PrivateKeyInfo of RSA of 2048 bits
abbrev pub IsPrivateKey : PaserkVersion → List ℕ → Type 0
IsPrivateKey V1 = IsRsaPrivate
IsPrivateKey V2 = λ key. length key ≡ 64
IsPrivateKey V3 = λ key. length key ≡ 48
IsPrivateKey V4 = λ key. length key ≡ 64

-- bytes are a public key of a version: in version 1 an RSAPublicKey of 2048 bits, 32 bytes of Ed25519, and of P-384 a point
-- with compression
abbrev pub IsPublicKey : PaserkVersion → List ℕ → Type 0
IsPublicKey V1 = IsRsaPublic
IsPublicKey V2 = λ key. IsTrue (length key == 32)
IsPublicKey V3 = λ key. IsTrue (length key == 49 && is_compressed key)
IsPublicKey V4 = λ key. IsTrue (length key == 32)

-- ---- lines that are written

-- the line of a private key: in version 1 with its RSAPrivateKey
abbrev pub private_line : PaserkVersion → List ℕ → List ℕ
private_line V1 = secret_text
private_line V2 = writing V2 Secret
private_line V3 = writing V3 Secret
private_line V4 = writing V4 Secret

-- the answer for bytes is their line, where they are a key
pub record WritesLine (IsKey : List ℕ → Type 0) (line_of : List ℕ → List ℕ) (key : List ℕ) (answer : Result (String Global) KeyFileError) : Type 0 where
  pub ok : IfOk answer (λ line. IsKey key × (string_bytes line ≡ line_of key))
  pub refused : IfErr answer (λ error. IsMemory error ⊎ ((error ≡ Wrap InvalidKey) × ¬ IsKey key))

-- ---- lines that are read

-- the line is the writing of a key in PASERK
pub record IsWritingOf (version : PaserkVersion) (kind : PaserkType) (IsKey : List ℕ → Type 0) (key line : List ℕ) : Type 0 where
  pub bytes : IsBytes key
  pub form : IsKey key
  pub written : line ≡ writing version kind key

-- the line is that of a key for local tokens
abbrev pub IsLocalLine : PaserkVersion → List ℕ → List ℕ → Type 0
IsLocalLine version = IsWritingOf version Local IsLocalKey

-- the line is the writing of octets in PASERK that are a form of a key of version 1
pub record IsFormOf (kind : PaserkType) (IsForm : List ℕ → List ℕ → Type 0) (key line : List ℕ) : Type 0 where
  pub octets : List ℕ
  pub bytes : IsBytes octets
  pub form : IsForm octets key
  pub written : line ≡ writing V1 kind octets

-- octets are a form of some key
abbrev pub IsSomeForm : (List ℕ → List ℕ → Type 0) → List ℕ → Type 0
IsSomeForm IsForm octets = (key : List ℕ) × IsForm octets key

-- the line is that of a private key: in version 1 with its RSAPrivateKey or its PrivateKeyInfo
abbrev pub IsPrivateLine : PaserkVersion → List ℕ → List ℕ → Type 0
IsPrivateLine V1 = IsFormOf Secret IsSecretForm
IsPrivateLine V2 = IsWritingOf V2 Secret (IsPrivateKey V2)
IsPrivateLine V3 = IsWritingOf V3 Secret (IsPrivateKey V3)
IsPrivateLine V4 = IsWritingOf V4 Secret (IsPrivateKey V4)

-- the line is that of a public key of version 1, with its SubjectPublicKeyInfo
abbrev pub IsRsaPublicLine : List ℕ → List ℕ → Type 0
IsRsaPublicLine = IsFormOf Public IsPublicForm

-- why a line in PASERK is refused
abbrev pub IsPaserkFault : PaserkVersion → PaserkType → (List ℕ → Type 0) → List ℕ → KeyFileError → Type 0
IsPaserkFault version kind IsKey line (Paserk error) = IsKeyFault version kind IsKey line error
IsPaserkFault version kind IsKey line (Memory _) = ⊤
IsPaserkFault version kind IsKey line _ = ⊥

-- why the line of a public key of version 1 is refused
abbrev pub IsRsaPublicFault : List ℕ → KeyFileError → Type 0
IsRsaPublicFault = IsPaserkFault V1 Public (IsSomeForm IsPublicForm)

-- why the line of a private key is refused
abbrev pub IsPrivateFault : PaserkVersion → List ℕ → KeyFileError → Type 0
IsPrivateFault V1 = IsPaserkFault V1 Secret (IsSomeForm IsSecretForm)
IsPrivateFault V2 = IsPaserkFault V2 Secret (IsPrivateKey V2)
IsPrivateFault V3 = IsPaserkFault V3 Secret (IsPrivateKey V3)
IsPrivateFault V4 = IsPaserkFault V4 Secret (IsPrivateKey V4)

-- the answer for a line is the key whose line it is, exactly where it is the line of one
pub record ReadsKey (IsLine : List ℕ → List ℕ → Type 0) (IsFault : List ℕ → KeyFileError → Type 0) (line : List ℕ) (answer : Result (List ℕ) KeyFileError) : Type 0 where
  pub found : IfOk answer (λ key. IsLine key line)
  pub read : (key : List ℕ) → IsLine key line → MatchResult answer (λ found. found ≡ key) IsMemory
  pub refused : IfErr answer (IsFault line)

-- ---- what a line begins as

-- why the line of a key that is to be kept secret is refused
abbrev pub IsLineFault : PaserkVersion → PaserkType → List ℕ → KeyFileError → Type 0
IsLineFault version Local line error = IsPaserkFault version Local IsLocalKey line error
IsLineFault version Secret line error = IsPrivateFault version line error
IsLineFault version Public line error = error ≡ PublicKey

-- a line begins as that of no key
abbrev pub IsBeginFault : List ℕ → KeyFileError → Type 0
IsBeginFault line error = HasNoHeader line × (error ≡ Paserk NoKey)

-- ---- line ends

-- a text without its line end: LF, or CR and LF
abbrev pub without_line_end : List ℕ → List ℕ
without_line_end text = if ends_with_byte 10 text then strip_last 13 (strip_last 10 text) else text

-- The text of a key (PASERK specification, "PASERK Message Format"): the header and the base64url encoding of the key's
-- bytes, without padding.
use Rattle.std.specs.Prelude.{◌≡◌, ◌≢◌, ⊤, ℕ, List, ◌++◌, length, Result, IfOk, IfErr, MatchResult, string_bytes}
use Rattle.std.specs.declared.alloc.Global.{Global}
use Rattle.std.specs.declared.string.String.{String}
use Rattle.std.specs.declared.vec.Vec.{Vec}
use Rattle.base64.specs.GeneralPurpose.{IsBytes}
use Rattle.rusty_paseto_parts.specs.Section.{base64url}
use Rattle.rusty_paseto_paserk.specs.declared.header.PaserkVersion.{PaserkVersion}
use Rattle.rusty_paseto_paserk.specs.declared.header.PaserkType.{PaserkType}
use Rattle.rusty_paseto_paserk.specs.declared.header.PaserkType.TheVariants.{Secret}
use Rattle.rusty_paseto_paserk.specs.declared.error.PaserkError.{PaserkError}
use Rattle.rusty_paseto_paserk.specs.declared.error.PaserkError.TheVariants.{NoKey, OtherVersion, OtherType, InvalidKey, Memory}
use Rattle.rusty_paseto_paserk.specs.Header.{HasHeader, HasNoHeader, header}
use Rattle.rusty_paseto_paserk.specs.Error.{IsMemory}

-- the text of a key
abbrev pub writing : PaserkVersion → PaserkType → List ℕ → List ℕ
writing version kind key = header version kind ++ base64url key

-- the text is the writing of no key of this version and type
abbrev pub IsNoWriting : PaserkVersion → PaserkType → (List ℕ → Type 0) → List ℕ → Type 0
IsNoWriting version kind IsKey text = (key : List ℕ) → IsBytes key → IsKey key → text ≢ writing version kind key

-- the errors of reading a key of this version and type, and when they come
abbrev pub IsKeyFault : PaserkVersion → PaserkType → (List ℕ → Type 0) → List ℕ → PaserkError → Type 0
IsKeyFault version kind IsKey text NoKey = HasNoHeader text
IsKeyFault version kind IsKey text (OtherVersion found) = (found ≢ version) × ((other : PaserkType) × HasHeader found other text)
IsKeyFault version kind IsKey text (OtherType found) = (found ≢ kind) × HasHeader version found text
IsKeyFault version kind IsKey text InvalidKey = HasHeader version kind text × IsNoWriting version kind IsKey text
IsKeyFault version kind IsKey text (Memory _) = ⊤

-- the answer for a text is the key whose writing it is, exactly where it is the writing of one
pub record ReadsKey (version : PaserkVersion) (kind : PaserkType) (IsKey : List ℕ → Type 0) (text : List ℕ) (answer : Result (List ℕ) PaserkError) : Type 0 where
  pub bytes : IfOk answer IsBytes
  pub form : IfOk answer IsKey
  pub written : IfOk answer (λ key. text ≡ writing version kind key)
  pub read : (key : List ℕ) → IsBytes key → IsKey key → text ≡ writing version kind key
      → MatchResult answer (λ found. found ≡ key) IsMemory
  pub refused : IfErr answer (IsKeyFault version kind IsKey text)

-- the answer for a text is the bytes whose encoding stands behind the header
pub record ReadsBytes (version : PaserkVersion) (kind : PaserkType) (text : List ℕ) (answer : Result (Vec ℕ Global) PaserkError) : Type 0 where
  pub bytes : IfOk answer (λ found. IsBytes found.items)
  pub written : IfOk answer (λ found. text ≡ writing version kind found.items)
  pub read : (key : List ℕ) → IsBytes key → text ≡ writing version kind key
      → MatchResult answer (λ found. found.items ≡ key) IsMemory
  pub refused : IfErr answer (IsKeyFault version kind (λ _. ⊤) text)

-- why a private key is not written: its length is another one than that of the version's private keys
abbrev pub IsLengthFault : ℕ → List ℕ → PaserkError → Type 0
IsLengthFault n key InvalidKey = length key ≢ n
IsLengthFault n key (Memory _) = ⊤
IsLengthFault n key _ = ⊥

-- the answer for a private key is its text, where it has the length of the version's private keys
pub record WritesSecret (version : PaserkVersion) (n : ℕ) (key : List ℕ) (answer : Result (String Global) PaserkError) : Type 0 where
  pub ok : IfOk answer (λ text. (length key ≡ n) × (string_bytes text ≡ writing version Secret key))
  pub refused : IfErr answer (IsLengthFault n key)

-- The text of a wrapped key (PASERK specification, "PASERK Message Format"): the header and the base64url encoding of a
-- payload, without padding; and how a text is read. A type says which payload wraps which bytes.
use Rattle.std.specs.Prelude.{◌≡◌, ◌≢◌, ⊤, ℕ, List, ◌++◌, Result, IfOk, IfErr, MatchResult}
use Rattle.std.specs.declared.alloc.Global.{Global}
use Rattle.std.specs.declared.vec.Vec.{Vec}
use Rattle.base64.specs.GeneralPurpose.{IsBytes}
use Rattle.rusty_paseto_parts.specs.Section.{base64url}
use Rattle.rusty_paseto_paserk.specs.declared.header.PaserkVersion.{PaserkVersion}
use Rattle.paseto_wrapping.specs.declared.header.WrappedType.{WrappedType}
use Rattle.paseto_wrapping.specs.declared.error.WrapError.{WrapError}
use Rattle.paseto_wrapping.specs.declared.error.WrapError.TheVariants.{NoWrappedKey, OtherVersion, OtherType, InvalidText, Memory}
use Rattle.paseto_wrapping.specs.Error.{IsMemory}
use Rattle.paseto_wrapping.specs.Header.{HasHeader, HasNoHeader, header}

-- the text of a payload
abbrev pub writing : PaserkVersion → WrappedType → List ℕ → List ℕ
writing version kind payload = header version kind ++ base64url payload

-- the text begins as no wrapped key of this version and type
abbrev pub IsHeaderFault : PaserkVersion → WrappedType → List ℕ → WrapError → Type 0
IsHeaderFault version kind text NoWrappedKey = HasNoHeader text
IsHeaderFault version kind text (OtherVersion found) = (found ≢ version) × ((other : WrappedType) × HasHeader found other text)
IsHeaderFault version kind text (OtherType found) = (found ≢ kind) × HasHeader version found text
IsHeaderFault version kind text _ = ⊥

-- ---- the payload of a text

-- behind the header stands the encoding of no payload
abbrev pub HasNoPayload : PaserkVersion → WrappedType → List ℕ → Type 0
HasNoPayload version kind text = (payload : List ℕ) → IsBytes payload → text ≢ writing version kind payload

-- the errors of reading a payload, and when they come
abbrev pub IsTextFault : PaserkVersion → WrappedType → List ℕ → WrapError → Type 0
IsTextFault version kind text InvalidText = HasHeader version kind text × HasNoPayload version kind text
IsTextFault version kind text (Memory _) = ⊤
IsTextFault version kind text error = IsHeaderFault version kind text error

-- the answer for a text is its payload
pub record ReadsPayload (version : PaserkVersion) (kind : WrappedType) (text : List ℕ) (answer : Result (Vec ℕ Global) WrapError) : Type 0 where
  pub bytes : IfOk answer (λ payload. IsBytes payload.items)
  pub written : IfOk answer (λ payload. text ≡ writing version kind payload.items)
  pub read : (payload : List ℕ) → IsBytes payload → text ≡ writing version kind payload
      → MatchResult answer (λ found. found.items ≡ payload) IsMemory
  pub refused : IfErr answer (IsTextFault version kind text)

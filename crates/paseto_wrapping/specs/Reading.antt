-- How wrapped keys are read. A type of wrapped keys says which payload wraps which bytes (Wraps), and why a payload is
-- not unwrapped (Faults); here is what follows of it for texts and for keys.
use Rattle.std.specs.Prelude.{◌≡◌, ◌⊎◌, ⊤, ℕ, List, Result, IfOk, IfErr, MatchResult}
use Rattle.std.specs.declared.alloc.Global.{Global}
use Rattle.std.specs.declared.vec.Vec.{Vec}
use Rattle.base64.specs.GeneralPurpose.{IsBytes}
use Rattle.rusty_paseto_paserk.specs.declared.header.PaserkVersion.{PaserkVersion}
use Rattle.paseto_wrapping.specs.declared.header.WrappedType.{WrappedType}
use Rattle.paseto_wrapping.specs.declared.error.WrapError.{WrapError}
use Rattle.paseto_wrapping.specs.declared.error.WrapError.TheVariants.{NoWrappedKey, OtherVersion, OtherType, InvalidText, LongPassword, InvalidCost, TooCostly, InvalidPrivateKey, InvalidPoint, SmallOrder, WrongKey, InvalidKey, Memory}
use Rattle.paseto_wrapping.specs.Error.{IsMemory}
use Rattle.paseto_wrapping.specs.Header.{HasHeader}
use Rattle.paseto_wrapping.specs.Text.{IsHeaderFault, writing}

-- which payload wraps which bytes
abbrev pub Wraps : Type 1
Wraps = List ℕ → List ℕ → Type 0

-- why a payload is not unwrapped
abbrev pub Faults : Type 1
Faults = List ℕ → WrapError → Type 0

-- the errors that are a payload's
abbrev pub IsOfPayload : WrapError → Type 0
IsOfPayload InvalidText = ⊤
IsOfPayload LongPassword = ⊤
IsOfPayload InvalidCost = ⊤
IsOfPayload TooCostly = ⊤
IsOfPayload InvalidPrivateKey = ⊤
IsOfPayload InvalidPoint = ⊤
IsOfPayload SmallOrder = ⊤
IsOfPayload WrongKey = ⊤
IsOfPayload _ = ⊥

-- why the parts of a payload are not unwrapped: the tag is not the one that was found (HasTag does not hold)
abbrev pub IsTagFault : Type 0 → WrapError → Type 0
IsTagFault HasTag WrongKey = ¬ HasTag
IsTagFault HasTag (Memory _) = ⊤
IsTagFault HasTag _ = ⊥

-- the answer for a payload, or for a text, is the bytes that it wraps
pub record Unwraps (IsWrapped : Wraps) (IsFault : Faults) (input : List ℕ) (answer : Result (Vec ℕ Global) WrapError) : Type 0 where
  pub bytes : IfOk answer (λ key. IsBytes key.items)
  pub found : IfOk answer (λ key. IsWrapped input key.items)
  pub read : (key : List ℕ) → IsBytes key → IsWrapped input key
      → MatchResult answer (λ found. found.items ≡ key) IsMemory
  pub refused : IfErr answer (λ error. IsMemory error ⊎ IsFault input error)

-- the text is that of a payload of this version and type
abbrev pub IsTextOf : PaserkVersion → WrappedType → List ℕ → List ℕ → Type 0
IsTextOf version kind text payload = IsBytes payload × (text ≡ writing version kind payload)

-- ---- texts

-- the text wraps the bytes that its payload wraps
abbrev pub InText : PaserkVersion → WrappedType → Wraps → List ℕ → List ℕ → Type 0
InText version kind IsWrapped text key = (payload : List ℕ) × IsTextOf version kind text payload × IsWrapped payload key

-- why a text is not unwrapped
abbrev pub TextFaults : PaserkVersion → WrappedType → Faults → List ℕ → WrapError → Type 0
TextFaults version kind IsFault text NoWrappedKey = IsHeaderFault version kind text NoWrappedKey
TextFaults version kind IsFault text (OtherVersion found) = IsHeaderFault version kind text (OtherVersion found)
TextFaults version kind IsFault text (OtherType found) = IsHeaderFault version kind text (OtherType found)
TextFaults version kind IsFault text InvalidText =
    HasHeader version kind text × ((payload : List ℕ) → IsTextOf version kind text payload → IsFault payload InvalidText)
TextFaults version kind IsFault text InvalidKey = ⊥
TextFaults version kind IsFault text (Memory _) = ⊤
TextFaults version kind IsFault text error = (payload : List ℕ) × IsTextOf version kind text payload × IsFault payload error

-- ---- keys

-- why a text is not unwrapped as a key: what it wraps is none, or it is not unwrapped at all
abbrev pub KeyFaults : (List ℕ → Type 0) → Wraps → Faults → List ℕ → WrapError → Type 0
KeyFaults IsKey IsWrapped IsFault text InvalidKey = (key : List ℕ) × IsBytes key × IsWrapped text key × ¬ IsKey key
KeyFaults IsKey IsWrapped IsFault text (Memory _) = ⊤
KeyFaults IsKey IsWrapped IsFault text error = IsFault text error

-- the answer for a text is the key that it wraps, exactly where it wraps one
pub record UnwrapsKey (IsKey : List ℕ → Type 0) (IsWrapped : Wraps) (IsFault : Faults) (text : List ℕ) (answer : Result (List ℕ) WrapError) : Type 0 where
  pub bytes : IfOk answer IsBytes
  pub form : IfOk answer IsKey
  pub found : IfOk answer (λ key. IsWrapped text key)
  pub read : (key : List ℕ) → IsBytes key → IsKey key → IsWrapped text key
      → MatchResult answer (λ found. found ≡ key) IsMemory
  pub refused : IfErr answer (KeyFaults IsKey IsWrapped IsFault text)

-- ---- keys in a form

-- the text wraps octets that are a form of the key
abbrev pub WrapsForm : (List ℕ → List ℕ → Type 0) → Wraps → List ℕ → List ℕ → Type 0
WrapsForm IsForm IsWrapped text key = (octets : List ℕ) × IsBytes octets × IsWrapped text octets × IsForm octets key

-- the answer for a text is the key of which it wraps a form, exactly where it wraps one. What is `InvalidKey` is the form of
-- no key
pub record UnwrapsForm (IsForm : List ℕ → List ℕ → Type 0) (IsWrapped : Wraps) (IsFault : Faults) (text : List ℕ) (answer : Result (List ℕ) WrapError) : Type 0 where
  pub bytes : IfOk answer IsBytes
  pub found : IfOk answer (λ key. WrapsForm IsForm IsWrapped text key)
  pub read : (key : List ℕ) → WrapsForm IsForm IsWrapped text key → MatchResult answer (λ found. found ≡ key) IsMemory
  pub refused : IfErr answer (KeyFaults (λ octets. (key : List ℕ) × IsForm octets key) IsWrapped IsFault text)

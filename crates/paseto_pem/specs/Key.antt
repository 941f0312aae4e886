-- The texts of keys. A version says which contents under which label are which key (IsKeyOf), and why others are not read
-- (IsFaultOf).
use Rattle.std.specs.Prelude.{◌≡◌, ◌≢◌, ◌⊎◌, ⊤, ℕ, List, Result, IfOk, IfErr, MatchResult, string_bytes}
use Rattle.std.specs.declared.alloc.Global.{Global}
use Rattle.std.specs.declared.string.String.{String}
use Rattle.std.specs.declared.vec.Vec.{Vec}
use Rattle.base64.specs.GeneralPurpose.{IsBytes}
use Rattle.paseto_pem.specs.declared.label.Label.{Label}
use Rattle.paseto_pem.specs.declared.error.PemError.{PemError}
use Rattle.paseto_pem.specs.declared.error.PemError.TheVariants.{NotPem, TwoKeys, OtherLabel, Encrypted, InvalidKey, Memory}
use Rattle.paseto_pem.specs.declared.label.Label.TheVariants.{EncryptedPrivateKey}
use Rattle.paseto_pem.specs.Error.{IsMemory}
use Rattle.paseto_pem.specs.Text.{BeginsOldEncrypted, HasSecond, HasTwoKeys, IsOldEncrypted, IsPem, pem}

-- the text is none of RFC 7468 with one of the labels
abbrev pub IsNoPem : List ℕ → Type 0
IsNoPem text = (label : Label) (contents : List ℕ) → IsBytes contents → ¬ IsPem label contents text

-- the errors of reading a text, and when they come
abbrev pub IsTextFault : List ℕ → PemError → Type 0
IsTextFault text NotPem = IsNoPem text × (¬ HasTwoKeys text) × (¬ IsOldEncrypted text)
IsTextFault text TwoKeys = IsNoPem text × HasTwoKeys text
IsTextFault text Encrypted = IsNoPem text × (¬ HasTwoKeys text) × IsOldEncrypted text
IsTextFault text (Memory _) = ⊤
IsTextFault text _ = ⊥

-- why a block is not that of a key, by the lines behind its first one
abbrev pub IsBlockRefusal : List (List ℕ) → PemError → Type 0
IsBlockRefusal behind NotPem = (¬ HasSecond behind) × (¬ BeginsOldEncrypted behind)
IsBlockRefusal behind TwoKeys = HasSecond behind
IsBlockRefusal behind Encrypted = (¬ HasSecond behind) × BeginsOldEncrypted behind
IsBlockRefusal behind _ = ⊥

-- the answer for a text is its label and its contents
pub record ReadsText (text : List ℕ) (answer : Result (Label × Vec ℕ Global) PemError) : Type 0 where
  pub bytes : IfOk answer (λ found. IsBytes found.1.items)
  pub found : IfOk answer (λ found. IsPem found.0 found.1.items text)
  pub read : (label : Label) (contents : List ℕ) → IsBytes contents → IsPem label contents text
      → MatchResult answer (λ found. (found.0 ≡ label) × (found.1.items ≡ contents)) IsMemory
  pub refused : IfErr answer (IsTextFault text)

-- which contents under which label are which key
abbrev pub Contents : Type 1
Contents = Label → List ℕ → List ℕ → Type 0

-- what is one is the other, too
abbrev pub IsWithin : Contents → Contents → Type 0
IsWithin One Other = (label : Label) (contents key : List ℕ) → One label contents key → Other label contents key

-- why contents under a label are not read
abbrev pub Faults : Type 1
Faults = Label → List ℕ → PemError → Type 0

-- the answer for contents under a label is the key that they are
pub record ReadsContents (IsKeyOf : Contents) (IsFaultOf : Faults) (label : Label) (contents : List ℕ) (answer : Result (Vec ℕ Global) PemError) : Type 0 where
  pub found : IfOk answer (λ key. IsKeyOf label contents key.items)
  pub read : (key : List ℕ) → IsKeyOf label contents key → MatchResult answer (λ found. found.items ≡ key) IsMemory
  pub refused : IfErr answer (λ error. IsMemory error ⊎ IsFaultOf label contents error)

-- the same, where the answer is a key
pub record ReadsHeld (IsKeyOf : Contents) (IsFaultOf : Faults) (label : Label) (contents : List ℕ) (answer : Result (List ℕ) PemError) : Type 0 where
  pub found : IfOk answer (λ key. IsKeyOf label contents key)
  pub read : (key : List ℕ) → IsKeyOf label contents key → MatchResult answer (λ found. found ≡ key) IsMemory
  pub refused : IfErr answer (λ error. IsMemory error ⊎ IsFaultOf label contents error)

-- what stands under the label is none of the keys that were asked for
abbrev pub IsOtherLabel : Label → PemError → Type 0
IsOtherLabel label (OtherLabel other) = (other ≡ label) × (label ≢ EncryptedPrivateKey)
IsOtherLabel label Encrypted = label ≡ EncryptedPrivateKey
IsOtherLabel label _ = ⊥

-- the text is a key
pub record IsText (IsKeyOf : Contents) (key text : List ℕ) : Type 0 where
  pub label : Label
  pub contents : List ℕ
  pub bytes : IsBytes contents
  pub written : IsPem label contents text
  pub held : IsKeyOf label contents key

-- the errors of reading a text as a key, and when they come
abbrev pub IsKeyFault : Faults → List ℕ → PemError → Type 0
IsKeyFault IsFaultOf text error =
    IsTextFault text error
    ⊎ ((label : Label) × (contents : List ℕ) × IsBytes contents × IsPem label contents text × IsFaultOf label contents error)

-- the answer for a text is the key whose text it is, exactly where it is the text of one
pub record ReadsKey (IsKeyOf : Contents) (IsFaultOf : Faults) (text : List ℕ) (answer : Result (List ℕ) PemError) : Type 0 where
  pub found : IfOk answer (λ key. IsText IsKeyOf key text)
  pub read : (key : List ℕ) → IsText IsKeyOf key text → MatchResult answer (λ found. found ≡ key) IsMemory
  pub refused : IfErr answer (IsKeyFault IsFaultOf text)

-- the text is the one that `openssl pkey` writes of a key
pub record IsWritten (IsKeyOf : Contents) (label : Label) (key text : List ℕ) : Type 0 where
  pub contents : List ℕ
  pub bytes : IsBytes contents
  pub held : IsKeyOf label contents key
  pub written : text ≡ pem label contents

-- the answer for a key is its text, or `InvalidKey` where none is written of these bytes
pub record WritesKey (IsKeyOf : Contents) (label : Label) (key : List ℕ) (answer : Result (String Global) PemError) : Type 0 where
  pub ok : IfOk answer (λ text. IsWritten IsKeyOf label key (string_bytes text))
  pub refused : IfErr answer (λ error. IsMemory error ⊎ ((error ≡ InvalidKey) × ((contents : List ℕ) → ¬ IsKeyOf label contents key)))

-- the answer for a key are the contents of its text
pub record WritesContents (IsKeyOf : Contents) (label : Label) (key : List ℕ) (answer : Result (Vec ℕ Global) PemError) : Type 0 where
  pub ok : IfOk answer (λ contents. IsKeyOf label contents.items key)
  pub refused : IfErr answer (λ error. IsMemory error ⊎ ((error ≡ InvalidKey) × ((contents : List ℕ) → ¬ IsKeyOf label contents key)))

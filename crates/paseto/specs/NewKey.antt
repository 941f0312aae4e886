-- Which keys the arguments ask for.
use Rattle.std.specs.Prelude.{◌≡◌, ◌⊎◌, ℕ, List, Bool, true, false, Option, None, Some, is_some}
use Rattle.paseto_keys.specs.AnyKey.{KeyParts}
use Rattle.paseto_tasks.specs.Arguments.{is_pair, kind_of}
use Rattle.paseto_tasks.specs.declared.arguments.Format.{Format}
use Rattle.paseto_tasks.specs.declared.arguments.Format.TheVariants.{Paserk, Pem}
use Rattle.paseto_tasks.specs.declared.arguments.Kind.{Kind}
use Rattle.paseto_tasks.specs.declared.error.ProgramError.{ProgramError}
use Rattle.paseto_tasks.specs.declared.error.ProgramError.TheVariants.{Usage}
use Rattle.paseto_tasks.specs.declared.error.usage.UsageError.TheVariants.{LockedPem, NoHalf, NoKind}
use Rattle.paseto.specs.Forms.{HasNoForm, IsFormed, IsLocked, IsNotLocked}
use Rattle.paseto.specs.Half.{IsHalfFault, IsHalfIn}
use Rattle.paseto.specs.Keys.{IsKeyFault}
use Rattle.paseto.specs.declared.fault.Fault.{Fault}

-- the word names the kind, whose keys are pairs where a file for the public half is named
abbrev pub IsKindFor : List ℕ → Option (List ℕ) → Kind → Type 0
IsKindFor word half kind = (kind_of word ≡ Some kind) × ((is_some half ≡ false) ⊎ (is_pair kind ≡ true))

-- the word names no kind, or one whose keys have no public half
abbrev pub IsKindFault : List ℕ → Option (List ℕ) → ProgramError → Type 0
IsKindFault word half error = ((kind_of word ≡ None) × (error ≡ Usage NoKind))
    ⊎ ((kind : Kind) × (kind_of word ≡ Some kind) × (is_pair kind ≡ false) × (is_some half ≡ true) × (error ≡ Usage NoHalf))

-- the text is that of a new key: under the password if there is one, and otherwise in the format
abbrev pub IsSecretText : Format → Option (List ℕ) → (List ℕ → Type 0) → KeyParts → List ℕ → Type 0
IsSecretText format None IsDrawn key text = IsFormed format key text
IsSecretText Paserk (Some password) IsDrawn key text = IsLocked password IsDrawn key text
IsSecretText Pem (Some password) IsDrawn key text = ⊥

-- why it has none: no key under a password is written in PEM
abbrev pub IsNotSecret : List ℕ → Format → Option (List ℕ) → Type 0 → KeyParts → Fault → Type 0
IsNotSecret name format None Failure key fault = IsKeyFault name (HasNoForm format key) fault
IsNotSecret name Paserk (Some password) Failure key fault = IsKeyFault name (IsNotLocked password Failure key) fault
IsNotSecret name Pem (Some password) Failure key fault = fault.error ≡ Usage LockedPem

-- the text is that of the public half of a key in a format, where it is asked for
abbrev pub IsHalfText : Bool → Format → KeyParts → Option (List ℕ) → Type 0
IsHalfText false format key half = half ≡ None
IsHalfText true format key None = ⊥
IsHalfText true format key (Some text) = IsHalfIn format key text

-- why there is none
abbrev pub IsNoHalfText : List ℕ → Format → KeyParts → Fault → Type 0
IsNoHalfText = IsHalfFault

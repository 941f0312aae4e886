-- The forms in which keys are written.
use Rattle.std.specs.Prelude.{◌≡◌, ◌⊎◌, ℕ, List, [], ◌∷◌, ◌++◌, Option, None, Some}
use Rattle.paseto_wrapping.specs.declared.cost.PasswordCost.{PasswordCost}
use Rattle.paseto_key_files.specs.Password.{Protects, ProtectsNone}
use Rattle.paseto_key_files.specs.Pem.{WritesNoPem, WritesPem}
use Rattle.paseto_key_files.specs.declared.error.KeyFileError.{KeyFileError}
use Rattle.paseto_keys.specs.AnyKey.{KeyParts}
use Rattle.paseto_keys.specs.Forms.{ByLine, ByNoLine}
use Rattle.paseto_keys.specs.WrittenLine.{HasNoLine, IsWrittenIn}
use Rattle.paseto_tasks.specs.Arguments.{format_of}
use Rattle.paseto_tasks.specs.Output.{IsLineOf}
use Rattle.paseto_tasks.specs.declared.arguments.Format.{Format}
use Rattle.paseto_tasks.specs.declared.arguments.Format.TheVariants.{Paserk, Pem}

-- the format that an argument names, or PASERK if there is none
abbrev pub format_in : Option (List ℕ) → Option Format
format_in None = Some Paserk
format_in (Some word) = format_of word

-- a line, and a line feed behind it if it does not end in one
pub record IsEnded (line text : List ℕ) : Type 0 where
  pub body : List ℕ
  pub text_is : text ≡ body ++ (10 ∷ [])
  pub line_is : (line ≡ text) ⊎ (line ≡ body)

-- the same in a format: PEM ends in a line feed
abbrev pub IsEndedIn : Format → List ℕ → List ℕ → Type 0
IsEndedIn Paserk line text = IsEnded line text
IsEndedIn Pem line text = text ≡ line

-- the line of a key, or its PEM
abbrev pub IsTextIn : Format → KeyParts → List ℕ → Type 0
IsTextIn Paserk key = IsWrittenIn key.kind key.version key.bytes
IsTextIn Pem key = ByLine key WritesPem

-- the text is that of a key in a format
abbrev pub IsFormed : Format → KeyParts → List ℕ → Type 0
IsFormed format key text = (line : List ℕ) × IsTextIn format key line × IsEndedIn format line text

-- why a key has no text in a format
abbrev pub HasNoForm : Format → KeyParts → KeyFileError → Type 0
HasNoForm Paserk key error = HasNoLine key.kind key.version key.bytes error
HasNoForm Pem key error = ByNoLine key WritesNoPem error

-- the cost of new texts under a password: 100,000 iterations of PBKDF2; 64 MiB, 2 passes and 1 lane of Argon2id
abbrev pub new_cost : PasswordCost
new_cost = record { iterations = 100000; memory = 67108864; passes = 2; lanes = 1 }

-- the text is that of a key under a password, with what was drawn for it
abbrev pub IsLocked : List ℕ → (List ℕ → Type 0) → KeyParts → List ℕ → Type 0
IsLocked password IsDrawn key text = (locked : List ℕ) × ByLine key (Protects password new_cost IsDrawn) locked × IsLineOf locked text

-- why it has none
abbrev pub IsNotLocked : List ℕ → Type 0 → KeyParts → KeyFileError → Type 0
IsNotLocked password Failure key error = ByNoLine key (ProtectsNone password new_cost Failure) error

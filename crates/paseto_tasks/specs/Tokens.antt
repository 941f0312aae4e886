-- The commands `encrypt`, `decrypt`, `sign` and `verify`, with a key of any version.
use Rattle.std.specs.Prelude.{◌≡◌, ◌≢◌, ◌⊎◌, ℕ, List, is_some, IsUtf8}
use Rattle.rusty_paseto_core.specs.Context.{assertion_of, footer_of}
use Rattle.rusty_paseto_core.specs.Reading.{IsFault, IsRead, Reading}
use Rattle.rusty_paseto_parts.specs.declared.error.PasetoError.{PasetoError}
use Rattle.rusty_paseto_paserk.specs.declared.error.PaserkError.TheVariants.{OtherType}
use Rattle.rusty_paseto_paserk.specs.declared.header.PaserkType.{PaserkType}
use Rattle.rusty_paseto_paserk.specs.declared.header.PaserkType.TheVariants.{Local, Secret, Public}
use Rattle.paseto_keys.specs.AnyKey.{KeyParts}
use Rattle.paseto_keys.specs.Drawing.{IsDraw}
use Rattle.paseto_keys.specs.Reading.{reading_by}
use Rattle.paseto_keys.specs.Writing.{Writing, drawn_length, writing_by}
use Rattle.paseto_keys.specs.declared.error.KeyError.TheVariants.{Refused as RefusedToken}
use Rattle.paseto_tasks.specs.declared.arguments.Options.{Options}
use Rattle.paseto_tasks.specs.declared.arguments.Task.{Task}
use Rattle.paseto_tasks.specs.declared.arguments.Task.TheVariants.{Encrypt, Decrypt, Sign, Verify}
use Rattle.paseto_tasks.specs.declared.error.ProgramError.{ProgramError}
use Rattle.paseto_tasks.specs.declared.error.ProgramError.TheVariants.{File}
use Rattle.paseto_tasks.specs.declared.error.file.FileError.TheVariants.{Key, NoAssertion}
use Rattle.paseto_tasks.specs.Arguments.{Takes}
use Rattle.paseto_tasks.specs.Error.{IsTokenError, token_error_of}
use Rattle.paseto_tasks.specs.Input.{IsNoText, token_of_input}
use Rattle.paseto_tasks.specs.Output.{IsLineOf}
use Rattle.paseto_tasks.specs.TokenKind.{kind_read_by}

-- ---- keys

-- the type of the keys that a task takes
abbrev pub type_for : Task → PaserkType
type_for Encrypt = Local
type_for Decrypt = Local
type_for Sign = Secret
type_for Verify = Public

-- the key is of this type, and its version takes the assertion
abbrev pub Fits : PaserkType → Options → KeyParts → Type 0
Fits wanted options key = (key.kind ≡ wanted) × Takes key.version options.assertion

-- why it is refused otherwise
abbrev pub RefusesKey : PaserkType → Options → KeyParts → ProgramError → Type 0
RefusesKey wanted options key error =
    ((key.kind ≢ wanted) × (error ≡ File (Key (OtherType key.kind))))
    ⊎ ((key.kind ≡ wanted) × (¬ Takes key.version options.assertion) × (error ≡ File NoAssertion))

-- ---- writing

-- so many bytes may be drawn, by what a generator gives, or else where it is not called
abbrev pub drawn_by : (List ℕ → Type 0) → Type 0 → ℕ → List ℕ → Type 0
drawn_by IsGiven IsNotCalled count = IsDraw count IsGiven IsNotCalled

-- how a token is written with the key, the footer and the assertion of the options, and with what is drawn
abbrev pub writing_with : KeyParts → Options → List ℕ → Writing
writing_with key options drawn = writing_by key drawn (footer_of options.footer) (assertion_of options.assertion)

-- the line is that of a token of the text, with bytes that may be drawn, as many as the key takes
pub record Writes (key : KeyParts) (options : Options) (IsDrawn : ℕ → List ℕ → Type 0) (text line : List ℕ) : Type 0 where
  pub drawn : List ℕ
  pub token : List ℕ
  pub is_drawn : IsDrawn (drawn_length key.kind key.version) drawn
  pub utf8 : IsUtf8 text
  pub is_written : (writing_with key options drawn).Writes (is_some options.footer) text token
  pub line_is : IsLineOf token line

-- why a text has no token with such bytes
pub record DeclinesText (key : KeyParts) (options : Options) (IsDrawn : ℕ → List ℕ → Type 0) (text : List ℕ) (error : ProgramError) : Type 0 where
  pub drawn : List ℕ
  pub source : PasetoError
  pub is_drawn : IsDrawn (drawn_length key.kind key.version) drawn
  pub declined : (writing_with key options drawn).Declines (is_some options.footer) text source
  pub told : error ≡ token_error_of source

-- why there is none: the bytes are no text, or the text has no token
abbrev pub RefusesText : KeyParts → Options → (ℕ → List ℕ → Type 0) → List ℕ → ProgramError → Type 0
RefusesText key options IsDrawn text error = IsNoText text error ⊎ DeclinesText key options IsDrawn text error

-- ---- reading

-- how a token is read with the key, the footer and the assertion of the options
abbrev pub reading_with : KeyParts → Options → Reading
reading_with key options = reading_by key (footer_of options.footer) (assertion_of options.assertion)

-- the text is the one as which the token is read
pub record Reads (key : KeyParts) (options : Options) (token text : List ℕ) : Type 0 where
  pub utf8 : IsUtf8 token
  pub is_read : IsRead (reading_with key options) token text

-- why a text that is no token of the key is refused: by the first fault of reading it, unless it is a token of another kind
pub record RefusesReading (key : KeyParts) (options : Options) (token : List ℕ) (error : ProgramError) : Type 0 where
  pub source : PasetoError
  pub fault : IsFault (reading_with key options) token source
  pub unread : (text : List ℕ) → ¬ IsRead (reading_with key options) token text
  pub told : IsTokenError token (kind_read_by key.version key.kind) (RefusedToken source) error

-- why there is none of an input: it is no text, or its text is no token of the key
abbrev pub RefusesToken : KeyParts → Options → List ℕ → ProgramError → Type 0
RefusesToken key options input error = IsNoText input error ⊎ RefusesReading key options (token_of_input input) error

-- ---- tasks

-- what a task makes of an input
abbrev pub Does : Task → KeyParts → Options → (ℕ → List ℕ → Type 0) → List ℕ → List ℕ → Type 0
Does Encrypt key options IsDrawn input = Writes key options IsDrawn input
Does Decrypt key options IsDrawn input = Reads key options (token_of_input input)
Does Sign key options IsDrawn input = Writes key options IsDrawn input
Does Verify key options IsDrawn input = Reads key options (token_of_input input)

-- why it refuses the input
abbrev pub RefusesInput : Task → KeyParts → Options → (ℕ → List ℕ → Type 0) → List ℕ → ProgramError → Type 0
RefusesInput Encrypt key options IsDrawn input = RefusesText key options IsDrawn input
RefusesInput Decrypt key options IsDrawn input = RefusesToken key options input
RefusesInput Sign key options IsDrawn input = RefusesText key options IsDrawn input
RefusesInput Verify key options IsDrawn input = RefusesToken key options input

-- What a key answers that is to read or to write a token.
use Rattle.std.specs.Prelude.{◌≡◌, ◌≢◌, ℕ, Bool, true, false, List, length, Result, Ok, Err, Option, is_some, String}
use Rattle.std.specs.Global.{Global}
use Rattle.rusty_paseto_parts.specs.declared.error.PasetoError.{PasetoError}
use Rattle.rusty_paseto_parts.specs.declared.texts.implicit_assertion.ImplicitAssertion.{ImplicitAssertion}
use Rattle.rusty_paseto_core.specs.Context.{assertion_of}
use Rattle.rusty_paseto_core.specs.Reading.{IsAnswer, Reading}
use Rattle.rusty_paseto_paserk.specs.declared.header.PaserkType.{PaserkType}
use Rattle.paseto_keys.specs.AnyKey.{KeyParts, takes_assertion}
use Rattle.paseto_keys.specs.Error.{key_error_of}
use Rattle.paseto_keys.specs.Reading.{reading_by}
use Rattle.paseto_keys.specs.Writing.{IsWriteAnswer, Writing, drawn_length, writing_by}
use Rattle.paseto_keys.specs.declared.error.KeyError.{KeyError}
use Rattle.paseto_keys.specs.declared.error.KeyError.TheVariants.{OtherType, NoAssertion, OtherLength}

-- the answer of a key, where one that fits is needed: that it is of another type; else that its version has no implicit
-- assertion, where one is given; and else what is answered for the token or the text
pub record IsUse {A E : Type 0} (of_key : KeyError → E) (Fits : Type 0) (kind : PaserkType) (binds given : Bool)
    (Answers : Result A E → Type 0) (result : Result A E) : Type 0 where
  pub other : ¬ Fits → result ≡ Err (of_key (OtherType kind))
  pub unbound : Fits → binds ≡ false → given ≡ true → result ≡ Err (of_key NoAssertion)
  pub answer : Fits → (binds ≡ false → given ≡ false) → Answers result

-- as many bytes are drawn as are taken, or the answer tells how many are
pub record IsLength {A : Type 0} (takes drawn : ℕ) (Answers : Result A KeyError → Type 0) (result : Result A KeyError) : Type 0 where
  pub other : drawn ≢ takes → result ≡ Err (OtherLength takes)
  pub answer : drawn ≡ takes → Answers result

-- what a key answers that reads or writes
abbrev pub lifted : Result (String Global) PasetoError → Result (String Global) KeyError
lifted (Ok text) = Ok text
lifted (Err error) = Err (key_error_of error)

-- the answer is one of these
abbrev pub Lifts : (Result (String Global) PasetoError → Type 0) → Result (String Global) KeyError → Type 0
Lifts Answers result = (answer : Result (String Global) PasetoError) × (result ≡ lifted answer) × Answers answer

-- what is answered for a token
abbrev pub Reads : Reading → List ℕ → Result (String Global) KeyError → Type 0
Reads reading token = Lifts (IsAnswer reading token)

-- what is answered for a text, of which a token is to be written with so many of the drawn bytes
abbrev pub Writes : ℕ → List ℕ → Writing → Bool → List ℕ → Result (String Global) KeyError → Type 0
Writes takes drawn writing written text = IsLength takes (length drawn) (Lifts (IsWriteAnswer writing written text))

-- the answer of reading a token under a key of this type
abbrev pub IsReadAs : PaserkType → KeyParts → List ℕ → Option ImplicitAssertion → List ℕ → Result (String Global) KeyError → Type 0
IsReadAs wanted key footer assertion token =
    IsUse (λ error. error) (key.kind ≡ wanted) key.kind (takes_assertion key.version) (is_some assertion)
    (Reads (reading_by key footer (assertion_of assertion)) token)

-- the answer of writing a token of a text under a key of this type, with what is drawn for it
abbrev pub IsWrittenAs : PaserkType → KeyParts → List ℕ → List ℕ → Bool → Option ImplicitAssertion → List ℕ → Result (String Global) KeyError → Type 0
IsWrittenAs wanted key drawn footer written assertion text =
    IsUse (λ error. error) (key.kind ≡ wanted) key.kind (takes_assertion key.version) (is_some assertion)
    (Writes (drawn_length key.kind key.version) drawn (writing_by key drawn footer (assertion_of assertion)) written text)

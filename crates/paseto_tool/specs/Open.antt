-- The command `open`.
use Rattle.std.specs.Prelude.{ℕ, List, Option, IsUtf8, ⊤}
use Rattle.std.specs.Io.BufRead.{strip_last}
use Rattle.rusty_paseto_parts.specs.declared.error.PasetoError.{PasetoError}
use Rattle.rusty_paseto_parts.specs.declared.error.PasetoError.TheVariants.{InvalidKey, Utf8Error}
use Rattle.rusty_paseto_core.specs.Local.{Design}
use Rattle.rusty_paseto_core.specs.Local.Opening.{opening}
use Rattle.rusty_paseto_core.specs.Reading.{IsFault, IsRead}
use Rattle.paseto_tool.specs.declared.error.ToolError.{ToolError}
use Rattle.paseto_tool.specs.declared.error.ToolError.TheVariants.{Usage, Refused, InputOrOutput, Memory}
use Rattle.paseto_tool.specs.Arguments.{IsDigits, Says}
use Rattle.paseto_tool.specs.Seal.{binding}

-- the token is the input without the line feed at its end, where it has one
abbrev pub token_of : List ℕ → List ℕ
token_of input = strip_last 10 input

-- the text that is printed is the one that the token opens to
pub record OpensTo (design : Design) (key : List ℕ) (footer assertion : Option (List ℕ)) (input text : List ℕ) : Type 0 where
  pub key_bytes : List ℕ
  pub is_key : Says key key_bytes
  pub opens : IsRead (opening design (binding key_bytes footer assertion)) (token_of input) text

-- a token that is not UTF-8 is refused as such
abbrev pub IsTextFault : List ℕ → PasetoError → Type 0
IsTextFault token (Utf8Error _) = ¬ IsUtf8 token
IsTextFault token _ = ⊥

-- the error refuses the opening: a key that is no 64 digits, or else a token that is not UTF-8, or
-- else the first fault of the token
pub data RefusesOpening (design : Design) (key : List ℕ) (footer assertion : Option (List ℕ)) (input : List ℕ) : PasetoError → Type 0 where
  bad_key : (¬ IsDigits key) → RefusesOpening design key footer assertion input InvalidKey
  no_text : (error : PasetoError) → IsDigits key → IsTextFault (token_of input) error → RefusesOpening design key footer assertion input error
  no_token : (error : PasetoError) (key_bytes : List ℕ) → Says key key_bytes
      → IsFault (opening design (binding key_bytes footer assertion)) (token_of input) error → RefusesOpening design key footer assertion input error

-- why nothing is opened: a refusal, or something outside the words and the token
abbrev pub IsOpeningReason : Design → List ℕ → Option (List ℕ) → Option (List ℕ) → List ℕ → ToolError → Type 0
IsOpeningReason design key footer assertion input (Refused error) = RefusesOpening design key footer assertion input error
IsOpeningReason design key footer assertion input InputOrOutput = ⊤
IsOpeningReason design key footer assertion input (Memory _) = ⊤
IsOpeningReason design key footer assertion input Usage = ⊥

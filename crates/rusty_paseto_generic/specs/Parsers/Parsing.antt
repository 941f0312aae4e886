-- What a parser answers for a token.
use Rattle.std.specs.Prelude.{◌≡◌, ◌⊎◌, ⊤, true, false, ℕ, Bool, List, length, if◌then◌else◌, Option, Some, None, Result, Err, IfOk, IfErr, OnOk, MatchResult, String, string_bytes}
use Rattle.std.specs.Global.{Global}
use Rattle.serde_json.specs.Data.{Data}
use Rattle.serde_json.specs.Read.{read}
use Rattle.serde_json.specs.View.{view}
use Rattle.serde_json.specs.declared.value.Value.{Value}
use Rattle.rusty_paseto_claims.specs.Error.{Fault, unexpected, IsFault as IsClaimFault}
use Rattle.rusty_paseto_claims.specs.Whole.{IsOdd, is_whole}
use Rattle.rusty_paseto_core.specs.Reading.{IsFault, IsRead, Reading}
use Rattle.rusty_paseto_core.specs.Section.{HasCount, sections}
use Rattle.rusty_paseto_core.specs.declared.ImplicitAssertion.{ImplicitAssertion}
use Rattle.rusty_paseto_core.specs.declared.PasetoError.{PasetoError}
use Rattle.rusty_paseto_core.specs.declared.PasetoError.TheVariants.{IncorrectSize, TooLong}
use Rattle.rusty_paseto_parts.specs.Limit.{is_beyond}
use Rattle.rusty_paseto_generic.specs.Error.Parser.{IsMemory, of_cipher}
use Rattle.rusty_paseto_generic.specs.Parsers.Rules.{Rules}
use Rattle.rusty_paseto_generic.specs.Parsers.Verdicts.{IsFirstFailing, PassesAll}
use Rattle.rusty_paseto_generic.specs.Validator.{Verdict}
use Rattle.rusty_paseto_generic.specs.declared.error.GenericParserError.{GenericParserError}
use Rattle.rusty_paseto_generic.specs.declared.error.GenericParserError.TheVariants.{ClaimError, CipherError, PayloadJsonError}

-- ---- of a text that a token holds

-- the text is JSON of the value, nested at most 127 deep, and every number in it is a whole number of 64 bits
pub record IsReadAs (text : List ℕ) (value : Data) : Type 0 where
  pub is_json : read text ≡ Some value
  pub whole : is_whole value ≡ true

-- the value holds another number, and this is the first key under which it does
pub record IsOddUnder (text key : List ℕ) : Type 0 where
  pub value : Data
  pub is_json : read text ≡ Some value
  pub odd : IsOdd (Some key) value

-- the error is the first fault of reading the text: it is no such JSON, or it holds another number
abbrev pub IsReadingFault : List ℕ → GenericParserError → Type 0
IsReadingFault text (PayloadJsonError _) = read text ≡ None
IsReadingFault text (ClaimError source) = (key : List ℕ) × IsOddUnder text key × IsClaimFault (unexpected key) source
IsReadingFault text _ = ⊥

-- the text is read as the value, which passes what is checked under every key
pub record IsValueOf (rules : Rules Verdict) (text : List ℕ) (value : Data) : Type 0 where
  pub is_read : IsReadAs text value
  pub passes : PassesAll rules value

-- the error names the fault of the least key, in byte order, under which the value does not pass
abbrev pub IsCheckFault : Rules Verdict → Data → GenericParserError → Type 0
IsCheckFault rules value (ClaimError source) = (fault : Fault) × IsClaimFault fault source × IsFirstFailing rules value fault
IsCheckFault rules value _ = ⊥

-- the error is the first fault of the text: one of reading it, or else of the value's checks
abbrev pub IsTextFault : Rules Verdict → List ℕ → GenericParserError → Type 0
IsTextFault rules text error = IsReadingFault text error ⊎ ((value : Data) × IsReadAs text value × IsCheckFault rules value error)

-- the answer for the text: its value, that value wherever there is one unless memory is refused, and else the
-- first fault
pub record IsTextAnswer (rules : Rules Verdict) (text : List ℕ) (result : Result Value GenericParserError) : Type 0 where
  pub value : IfOk result (λ value. IsValueOf rules text (view value))
  pub complete : (value : Data) → IsValueOf rules text value → MatchResult result (λ found. view found ≡ value) IsMemory
  pub fault : IfErr result (λ error. IsMemory error ⊎ IsTextFault rules text error)

-- the answer for what was opened or verified: that for its text, or the error with which it was refused
abbrev pub IsOpenedAnswer : Rules Verdict → Result (String Global) PasetoError → Result Value GenericParserError → Type 0
IsOpenedAnswer rules opened result =
    MatchResult opened (λ text. IsTextAnswer rules (string_bytes text) result) (λ error. result ≡ Err (of_cipher error))

-- the answer of a check: that the value passes, that wherever it does unless memory is refused, and else the first fault
pub record IsCheckAnswer (rules : Rules Verdict) (value : Data) (result : Result ⊤ GenericParserError) : Type 0 where
  pub passes : OnOk result (PassesAll rules value)
  pub complete : PassesAll rules value → MatchResult result (λ _. ⊤) IsMemory
  pub fault : IfErr result (λ error. IsMemory error ⊎ IsCheckFault rules value error)

-- ---- of a token

-- the token is read as a text, and that as the value, which passes what is checked under every key
pub record IsParsed (reading : Reading) (rules : Rules Verdict) (token : List ℕ) (value : Data) : Type 0 where
  pub text : List ℕ
  pub is_read : IsRead reading token text
  pub is_value : IsValueOf rules text value

-- the error is the first fault of parsing the token: one of reading it as a text, or else of that text
abbrev pub IsFirstFault : Reading → Rules Verdict → List ℕ → GenericParserError → Type 0
IsFirstFault reading rules token (CipherError source) = IsFault reading token source
IsFirstFault reading rules token error = (text : List ℕ) × IsRead reading token text × IsTextFault rules text error

-- the answer of parsing a token: the value as which it is parsed, that value wherever there is one unless
-- memory is refused, and else the first fault; a wrong number of sections whatever memory there is
pub record IsParseAnswer (reading : Reading) (rules : Rules Verdict) (token : List ℕ) (result : Result Value GenericParserError) : Type 0 where
  pub parsed : IfOk result (λ value. IsParsed reading rules token (view value))
  pub complete : (value : Data) → IsParsed reading rules token value → MatchResult result (λ found. view found ≡ value) IsMemory
  pub count : ¬ HasCount (sections token) → result ≡ Err (CipherError IncorrectSize)
  pub fault : IfErr result (λ error. IsMemory error ⊎ IsFirstFault reading rules token error)

-- the answer of a parser that reads tokens of at most so many bytes, where it has a limit: that a longer one is too long,
-- whatever memory there is, and else that of parsing the token
pub record IsAnswerWithin (longest : Option ℕ) (reading : Reading) (rules : Rules Verdict) (token : List ℕ) (result : Result Value GenericParserError) : Type 0 where
  pub long : is_beyond longest (length token) ≡ true → result ≡ Err (CipherError TooLong)
  pub answer : is_beyond longest (length token) ≡ false → IsParseAnswer reading rules token result

-- the implicit assertion, in a version whose tokens are bound to one
abbrev pub assertion_in : Bool → Option ImplicitAssertion → Option ImplicitAssertion
assertion_in binds assertion = if binds then assertion else None

-- The claims of tokens.
use Rattle.std.specs.Prelude.{◌≡◌, ℕ, List, Option, Result, Ok, Err}
use Rattle.serde_json.specs.declared.value.Value.{Value}
use Rattle.rusty_paseto_core.specs.Reading.{Reading}
use Rattle.rusty_paseto_generic.specs.Parsers.Parsing.{IsAnswerWithin}
use Rattle.rusty_paseto_generic.specs.Parsers.Rules.{Rules}
use Rattle.rusty_paseto_generic.specs.Validator.{Verdict}
use Rattle.rusty_paseto_generic.specs.declared.error.GenericParserError.{GenericParserError}
use Rattle.paseto_keys.specs.Error.{admit_error_in}
use Rattle.paseto_keys.specs.declared.error.AdmitError.{AdmitError}

-- what a parser answers
abbrev pub admitted : Result Value GenericParserError → Result Value AdmitError
admitted (Ok value) = Ok value
admitted (Err error) = Err (admit_error_in error)

-- what is answered for a token: what a parser answers that reads tokens so, with this limit and these checks
abbrev pub Admits : Option ℕ → Reading → Rules Verdict → List ℕ → Result Value AdmitError → Type 0
Admits longest reading rules token result =
    (answer : Result Value GenericParserError) × (result ≡ admitted answer) × IsAnswerWithin longest reading rules token answer

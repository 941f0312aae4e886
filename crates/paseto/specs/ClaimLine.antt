-- What is said of a token whose claims are refused.
use Rattle.std.specs.Prelude.{◌≡◌, ℕ, ℤ, List, [], ◌++◌, false, Option, None, Some, Result, Ok, Err, String, codes, string_bytes, unwrap_or}
use Rattle.std.specs.Global.{Global}
use Rattle.jiff.specs.Types.{Timestamp}
use Rattle.jiff.specs.Words.{parse_timestamp}
use Rattle.serde_json.specs.Data.{Data}
use Rattle.serde_json.specs.Find.{as_str}
use Rattle.serde_json.specs.Written.{compact_text, has_float}
use Rattle.rusty_paseto_claims.specs.Error.{error_text}
use Rattle.rusty_paseto_claims.specs.declared.error.PasetoClaimError.{PasetoClaimError}
use Rattle.rusty_paseto_claims.specs.declared.error.PasetoClaimError.TheVariants.{Expired, Invalid, Unexpected, UseBeforeAvailable}
use Rattle.rusty_paseto_generic.specs.Parsers.Verdicts.{entry}
use Rattle.rusty_paseto_generic.specs.declared.error.GenericParserError.{GenericParserError}
use Rattle.rusty_paseto_generic.specs.declared.error.GenericParserError.TheVariants.{ClaimError}
use Rattle.paseto_tasks.specs.declared.error.ProgramError.{ProgramError}
use Rattle.paseto_tasks.specs.Error.{IsFixed, Says}
use Rattle.paseto.specs.Answers.{between_text, one_line}
use Rattle.paseto.specs.Claims.{Named, value_under}

-- the text that the claims have under a name, or the empty one
abbrev pub text_under : List ℕ → Data → List ℕ
text_under name claims = unwrap_or (as_str (entry name claims)) []

-- a token has expired at the moment that this text is
abbrev pub expired_by : {E : Type 0} → Result ℤ E → List ℕ → Timestamp → List ℕ
expired_by (Ok instant) text at = codes "expired " ++ (between_text instant at.nanosecond ++ (codes " ago, at " ++ text))
expired_by (Err _) text at = codes "expired"

abbrev pub expired_line : List ℕ → Timestamp → List ℕ
expired_line text at = expired_by (parse_timestamp text) text at

-- a token may first be used at the moment that this text is
abbrev pub early_by : {E : Type 0} → Result ℤ E → List ℕ → Timestamp → List ℕ
early_by (Ok instant) text at = codes "not valid before " ++ (text ++ (codes ", in " ++ between_text at.nanosecond instant))
early_by (Err _) text at = codes "not valid yet"

abbrev pub early_line : List ℕ → Timestamp → List ℕ
early_line text at = early_by (parse_timestamp text) text at

-- the claim is one text, and another is demanded
abbrev pub mismatch_text : List ℕ → List ℕ → List ℕ → List ℕ
mismatch_text name found wanted =
    codes "The claim '" ++ (name ++ (codes "' is '" ++ (found ++ (codes "', and not '" ++ (wanted ++ codes "'")))))

-- the line on claims that are refused for a fault at a moment
abbrev pub claim_line : Data → Timestamp → PasetoClaimError → List ℕ
claim_line claims at Expired = expired_line (text_under (codes "exp") claims) at
claim_line claims at (UseBeforeAvailable text) = early_line (string_bytes text) at
claim_line claims at (Invalid name found wanted) = one_line (mismatch_text (string_bytes name) (string_bytes found) (string_bytes wanted))
claim_line claims at fault = one_line (error_text fault)

-- the text is the JSON of the value, with no space
abbrev pub IsJson : Data → List ℕ → Type 0
IsJson value text = has_float value ≡ false → text ≡ compact_text value

abbrev pub unlike_text : List ℕ → List ℕ → List ℕ → List ℕ
unlike_text name found wanted = codes "The claim '" ++ (name ++ (codes "' is " ++ (found ++ (codes ", and not " ++ wanted))))

-- the line tells the value of a claim, and the one that is demanded
abbrev pub IsUnlikeLine : List ℕ → Data → Data → List ℕ → Type 0
IsUnlikeLine name found wanted line =
    (one : List ℕ) × (other : List ℕ) × IsJson found one × IsJson wanted other × (line ≡ one_line (unlike_text name one other))

-- where a value is demanded; and else the claim is not of the type that it has by its name
abbrev pub IsUnexpectedLine : Option Data → String Global → Data → Timestamp → List ℕ → Type 0
IsUnexpectedLine (Some wanted) name claims at line = IsUnlikeLine (string_bytes name) (entry (string_bytes name) claims) wanted line
IsUnexpectedLine None name claims at line = line ≡ claim_line claims at (Unexpected name)

-- the line on claims that are refused for a fault at a moment, of which these are demanded
abbrev pub IsLineOf : List Named → Data → Timestamp → PasetoClaimError → List ℕ → Type 0
IsLineOf demands claims at (Unexpected name) line = IsUnexpectedLine (value_under (string_bytes name) demands) name claims at line
IsLineOf demands claims at fault line = line ≡ claim_line claims at fault

-- ---- for private clauses

abbrev pub SaysOfCheck : List Named → Data → Timestamp → GenericParserError → ProgramError → Type 0
SaysOfCheck demands claims at (ClaimError fault) error = Says (IsLineOf demands claims at fault) error
SaysOfCheck demands claims at _ error = IsFixed error

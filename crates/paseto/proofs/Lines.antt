-- What is said of what is refused.
use Rattle.std.proofs.Common.{◌≡◌, ◌⊎◌, ℕ, List, Option, None, Some, IsSome, Result, Ok, Err, IfErr, IfOk, IsErrAnd, IsOkAnd, String, Global, string_bytes, inl, inr, refl, sym, ◌∙◌}
use Rattle.std.specs.Bool.{⊤}
use Rattle.std.specs.declared.alloc.AllocError.{AllocError}
use Rattle.jiff.specs.Types.{Timestamp}
use Rattle.serde_json.specs.Data.{Data}
use Rattle.rusty_paseto_claims.specs.Error.{error_text}
use Rattle.rusty_paseto_claims.specs.declared.error.PasetoClaimError.TheVariants.{Unexpected}
use Rattle.rusty_paseto_generic.specs.Parsers.Verdicts.{entry}
use Rattle.rusty_paseto_generic.specs.Error.{IsMemory}
use Rattle.rusty_paseto_generic.specs.Parsers.Parsing.{IsCheckAnswer, IsCheckFault}
use Rattle.rusty_paseto_generic.specs.Parsers.Rules.{Rules}
use Rattle.rusty_paseto_generic.specs.Validator.{Verdict}
use Rattle.rusty_paseto_generic.specs.declared.error.GenericBuilderError.{GenericBuilderError}
use Rattle.rusty_paseto_generic.specs.declared.error.GenericBuilderError.TheVariants.{DuplicateTopLevelPayloadClaim}
use Rattle.rusty_paseto_generic.specs.declared.error.GenericParserError.{GenericParserError}
use Rattle.rusty_paseto_generic.specs.declared.error.GenericParserError.TheVariants.{ClaimError}
use Rattle.rusty_paseto.specs.PasetoBuilder.{Counting, IsRefusedRepeat, IsDuplicate, IsSame}
use Rattle.paseto_tasks.specs.declared.error.ProgramError.{ProgramError}
use Rattle.paseto_tasks.specs.Error.{Says}
use Rattle.paseto_tasks.proofs.Statuses.{fixed_says, says_so}
use Rattle.paseto.specs.declared.commands.check.Keys.{Keys}
use Rattle.paseto.specs.Answers.{SaysOfBuilder, one_line, repeated_text}
use Rattle.paseto.specs.ClaimLine.{IsJson, IsLineOf, IsUnlikeLine, SaysOfCheck, unlike_text}
use Rattle.paseto.specs.Check.{Demanded, demanded_rules}
use Rattle.paseto.specs.Checked.{IsCheckLine, ParsesBy}
use Rattle.paseto.specs.Claims.{Named, value_under}
use Rattle.paseto.specs.Issue.{IsRepeatedLine, Ordered, keys_set}

-- ---- of a text that is put on one line

pub told_line : (text line : Result (String Global) AllocError) (wanted : List ℕ) (error : ProgramError) → IfOk text (λ t. string_bytes t ≡ wanted)
    → IfOk line (λ l. IsOkAnd text (λ t. string_bytes l ≡ one_line (string_bytes t)))
    → Says (λ said. IsOkAnd line (λ l. said ≡ string_bytes l)) error → Says (λ said. said ≡ one_line wanted) error
told_line (Ok t) (Ok l) wanted error is shown says =
    says_so (λ said. said ≡ string_bytes l) (λ said. said ≡ one_line wanted) (λ said so. so ∙ rw is at shown) error says
told_line (Err e) (Ok l) wanted error is shown says = absurd shown
told_line text (Err e) wanted error is shown says = says_so (λ said. ⊥) (λ said. said ≡ one_line wanted) (λ said none. absurd none) error says

-- ---- of a check

pub told_check : (keys : Keys) (demands : Demanded) (token : List ℕ) (claims : Data) (rules : Rules Verdict) (answer : Result ⊤ GenericParserError) (error : ProgramError)
    → ParsesBy keys demands.footer demands.assertion token claims → rules ≡ demanded_rules demands → IsCheckAnswer rules claims answer
    → IsErrAnd answer (λ source. SaysOfCheck demands.claims claims demands.at source error) → Says (IsCheckLine keys demands token) error
told_check keys demands token claims rules (Ok passed) error parses same answered said = absurd said
told_check keys demands token claims rules (Err (ClaimError fault)) error parses same answered said =
    let is : IsCheckFault rules claims (ClaimError fault) = elim answered.fault [ inl refused ↦ absurd refused | inr is ↦ is ] in
    says_so (IsLineOf demands.claims claims demands.at fault) (IsCheckLine keys demands token)
    (λ line line_is. inr (record { claims = claims; parses = parses; fault = fault; is_fault = rw same at is; line_is = line_is })) error said
told_check keys demands token claims rules (Err source) error parses same answered said = fixed_says (IsCheckLine keys demands token) error said

-- a line that tells both values of a claim
pub unlike_told : (name : List ℕ) (found wanted : Data) (one other : List ℕ) (text line : Result (String Global) AllocError) → IsJson found one → IsJson wanted other
    → IfOk text (λ t. string_bytes t ≡ unlike_text name one other)
    → IfOk line (λ l. IsOkAnd text (λ t. string_bytes l ≡ one_line (string_bytes t))) → IfOk line (λ l. IsUnlikeLine name found wanted (string_bytes l))
unlike_told name found wanted one other (Ok t) (Ok l) j k is shown = (one, other, j, k, rw is at shown)
unlike_told name found wanted one other (Err e) (Ok l) j k is shown = absurd shown
unlike_told name found wanted one other text (Err e) j k is shown = tt

pub unexpected_told : (demands : List Named) (claims wanted : Data) (at : Timestamp) (key : String Global) (line : Result (String Global) AllocError) (error : ProgramError)
    → value_under (string_bytes key) demands ≡ Some wanted
    → IfOk line (λ l. IsUnlikeLine (string_bytes key) (entry (string_bytes key) claims) wanted (string_bytes l))
    → Says (λ said. IsOkAnd line (λ l. said ≡ string_bytes l)) error → Says (IsLineOf demands claims at (Unexpected key)) error
unexpected_told demands claims wanted at key (Ok l) error under is says =
    says_so (λ said. said ≡ string_bytes l) (IsLineOf demands claims at (Unexpected key)) (λ said so. rw (under, so) is) error says
unexpected_told demands claims wanted at key (Err e) error under is says =
    says_so (λ said. ⊥) (IsLineOf demands claims at (Unexpected key)) (λ said none. absurd none) error says

-- a line on a claim of which no value is demanded
pub untyped_told : (demands : List Named) (claims : Data) (at : Timestamp) (key : String Global) (error : ProgramError)
    → value_under (string_bytes key) demands ≡ None → Says (λ said. said ≡ one_line (error_text (Unexpected key))) error
    → Says (IsLineOf demands claims at (Unexpected key)) error
untyped_told demands claims at key error under says =
    says_so (λ said. said ≡ one_line (error_text (Unexpected key))) (IsLineOf demands claims at (Unexpected key)) (λ said so. rw under so) error says

-- ---- of a builder

is_repeated : (repeated : Option (List ℕ)) (name : String Global)
    → (IsSome repeated → IsMemory (DuplicateTopLevelPayloadClaim name) ⊎ IsDuplicate repeated (DuplicateTopLevelPayloadClaim name))
    → (repeated ≡ None → IsMemory (DuplicateTopLevelPayloadClaim name)) → repeated ≡ Some (string_bytes name)
is_repeated None name some none = absurd (none refl)
is_repeated (Some other) name some none = elim (some refl) [ inl memory ↦ absurd memory | inr is ↦ is ]

pub told_built : (order : Ordered) (keys : Counting) (answer : Result (String Global) GenericBuilderError) (error : ProgramError)
    → IsSame (keys_set order) keys → IsRefusedRepeat keys.repeated answer → (keys.repeated ≡ None → IfErr answer IsMemory)
    → IsErrAnd answer (λ source. SaysOfBuilder source error) → Says (IsRepeatedLine order) error
told_built order keys (Ok token) error same refused none said = absurd said
told_built order keys (Err (DuplicateTopLevelPayloadClaim name)) error same refused none said =
    says_so (λ line. line ≡ one_line (repeated_text (string_bytes name))) (IsRepeatedLine order)
    (λ line line_is. (string_bytes name, sym same.repeated ∙ is_repeated keys.repeated name refused.err none, line_is)) error said
told_built order keys (Err source) error same refused none said = fixed_says (IsRepeatedLine order) error said

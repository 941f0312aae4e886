-- Claims of tokens that C admits.
use Rattle.std.specs.Prelude.{◌≡◌, ◌⊎◌, ◌||◌, ◌==◌, ℕ, ℤ, Bool, true, false, List, [], ◌∷◌, Option, Some, None, IsSome, is_some, if◌then◌else◌, length}
use Rattle.jiff.specs.Types.{Timestamp}
use Rattle.jiff.specs.Words.{IsTimestampNanos}
use Rattle.serde_json.specs.Data.{Data, Items, Members, array, object}
use Rattle.serde_json.specs.Read.{read}
use Rattle.serde_json.specs.Written.{compact_text}
use Rattle.rusty_paseto_claims.specs.Whole.{first_odd}
use Rattle.rusty_paseto_parts.specs.Limit.{has_long_footer, is_beyond}
use Rattle.rusty_paseto_parts.specs.Section.{sections}
use Rattle.rusty_paseto_parts.specs.declared.error.PasetoError.TheVariants as Token
use Rattle.rusty_paseto_parts.specs.declared.texts.footer.Footer.{Footer}
use Rattle.rusty_paseto_parts.specs.declared.texts.implicit_assertion.ImplicitAssertion.{ImplicitAssertion}
use Rattle.rusty_paseto_core.specs.Context.{assertion_of, footer_of}
use Rattle.rusty_paseto_core.specs.Reading.{Reading}
use Rattle.rusty_paseto_generic.specs.Parsers.Parsing.{IsFirstFault, IsParsed}
use Rattle.rusty_paseto_generic.specs.Parsers.Held.{rules_of, with_times}
use Rattle.rusty_paseto_generic.specs.Parsers.Rules.{AreSame, Rules, no_rule}
use Rattle.rusty_paseto_generic.specs.declared.parsers.checks.Checks.{Checks}
use Rattle.rusty_paseto_generic.specs.Validator.{Verdict}
use Rattle.rusty_paseto_generic.specs.declared.error.GenericParserError.{GenericParserError}
use Rattle.rusty_paseto_generic.specs.declared.error.GenericParserError.TheVariants.{CipherError}
use Rattle.paseto_keys.specs.Reading.{reading_by}
use Rattle.paseto_keys.specs.declared.error.AdmitError.{AdmitError}
use Rattle.paseto_keys.specs.declared.error.AdmitError.TheVariants.{Key, Parser, Memory as NoMemory}
use Rattle.paseto_calls.specs.Arguments.{AreUtf8, has_bytes}
use Rattle.paseto_calls.specs.Claims.{IsNoObject}
use Rattle.paseto_calls.specs.HeldKey.{bound_fault, first_of, named_by}
use Rattle.paseto_calls.specs.Parse.{IsNoArray, all_expected, all_required, are_texts, expected_rules, limit_of, line_of, read_names}
use Rattle.paseto_calls.specs.Refusal.{key_refusal, parser_refusal}
use Rattle.paseto_calls.specs.Request.{Request}
use Rattle.paseto_calls.specs.declared.fault.Fault.{Fault}
use Rattle.paseto_calls.specs.declared.fault.Fault.TheVariants.{Refused, Unparsed}
use Rattle.paseto_calls.specs.declared.held_key.HeldKey.{HeldKey}
use Rattle.paseto_calls.specs.declared.admit.options.AdmitOptions.{AdmitOptions}
use Rattle.paseto_calls.specs.declared.refusal.Refusal.{Refusal}
use Rattle.paseto_calls.specs.declared.refusal.Refusal.TheVariants.{InvalidMoment, InvalidOptions, Memory, NotNames, NotObject, NotUtf8, Unexpected}
use Rattle.paseto_calls.specs.declared.wanted.Wanted.TheVariants.{Readers}

-- ---- what is asked beside claims

-- by how many seconds the clocks may differ, how many bytes a token and its footer may have, where that is limited, and the text
-- of the names of claims that have to be there
pub record Demands : Type 0 where
  pub leeway : ℕ
  pub longest : Option ℕ
  pub longest_footer : Option ℕ
  pub names : List ℕ

abbrev pub demanded : AdmitOptions → Demands
demanded options = record {
  leeway = options.leeway;
  longest = limit_of options.longest;
  longest_footer = limit_of options.longest_footer;
  names = options.required.now;
}

-- the options have the size of those of this version
abbrev pub options_fault : AdmitOptions → Option Refusal
options_fault options = if options.size == 48 then None else Some InvalidOptions

-- the token, or its footer, has more bytes than is allowed
abbrev pub is_long : Demands → List ℕ → Bool
is_long demands token = has_long_footer demands.longest_footer (sections token) || is_beyond demands.longest (length token)

-- ---- what is checked

-- what is expected, and when: the members of the object that a text is, with whole numbers alone, at a moment in nanoseconds
-- since 1970, and the names, each of which is a text
pub record IsExpected (text : List ℕ) (now : ℤ) (demands : Demands) (members : Members) (names : Items) (moment : Timestamp) : Type 0 where
  pub is_object : read text ≡ Some (object members)
  pub is_array : read_names demands.names ≡ Some (array names)
  pub is_moment : moment.nanosecond ≡ now
  pub whole : first_odd members ≡ None
  pub are_names : are_texts names ≡ true

-- why nothing can be expected: the text is no object, or else the names are no array, or else there is no such moment, which no
-- number of 64 bits is the cause of, or else a member holds another number than a whole one, or else a name is no text
pub data IsExpectingFault (text : List ℕ) (now : ℤ) (demands : Demands) : Refusal → Type 0 where
  no_object : IsNoObject text → IsExpectingFault text now demands NotObject
  no_array : (members : Members) → read text ≡ Some (object members) → IsNoArray demands.names → IsExpectingFault text now demands NotNames
  no_moment : (members : Members) (names : Items) → read text ≡ Some (object members) → read_names demands.names ≡ Some (array names)
      → ¬ IsTimestampNanos now → IsExpectingFault text now demands InvalidMoment
  no_claim : (members : Members) (names : Items) → read text ≡ Some (object members) → read_names demands.names ≡ Some (array names)
      → IsTimestampNanos now → IsSome (first_odd members) → IsExpectingFault text now demands Unexpected
  no_name : (members : Members) (names : Items) → read text ≡ Some (object members) → read_names demands.names ≡ Some (array names)
      → IsTimestampNanos now → first_odd members ≡ None → are_texts names ≡ false → IsExpectingFault text now demands NotNames

-- the token is short enough, and is read as a value that passes what is checked; the answer is its compact JSON
pub record IsAdmitted (reading : Reading) (token expected : List ℕ) (now : ℤ) (demands : Demands) (text : List ℕ) : Type 0 where
  pub members : Members
  pub names : Items
  pub moment : Timestamp
  pub is_expected : IsExpected expected now demands members names moment
  pub is_short : is_long demands token ≡ false
  pub value : Data
  pub is_parsed : IsParsed reading (expected_rules members names moment demands.leeway) token value
  pub is_text : text ≡ compact_text value

-- the token is too long, or else this is the first fault of reading it and of its claims
abbrev pub IsFaultWithin : Demands → Reading → Rules Verdict → List ℕ → GenericParserError → Type 0
IsFaultWithin demands reading rules token error =
    ((is_long demands token ≡ true) × (error ≡ CipherError Token.TooLong))
    ⊎ ((is_long demands token ≡ false) × IsFirstFault reading rules token error)

-- the refusal and the line are those of the first fault of the token
pub record IsAdmittingFault (reading : Reading) (token expected : List ℕ) (now : ℤ) (demands : Demands) (refusal : Refusal) (line : List ℕ) : Type 0 where
  pub members : Members
  pub names : Items
  pub moment : Timestamp
  pub is_expected : IsExpected expected now demands members names moment
  pub error : GenericParserError
  pub is_fault : IsFaultWithin demands reading (expected_rules members names moment demands.leeway) token error
  pub is_refusal : refusal ≡ parser_refusal error
  pub is_line : line ≡ line_of error

-- a token is admitted under a key that reads
abbrev pub admitting : HeldKey → List ℕ → List ℕ → ℤ → List ℕ → List ℕ → AdmitOptions → Request (List ℕ)
admitting key token expected now footer assertion options =
    let reads = reading_by (named_by key) footer assertion in record {
      fault = first_of (bound_fault Readers key assertion) (options_fault options);
      texts = expected ∷ options.required.now ∷ token ∷ footer ∷ assertion ∷ [];
      Makes = IsAdmitted reads token expected now (demanded options);
      Refuses = IsExpectingFault expected now (demanded options);
      Tells = IsAdmittingFault reads token expected now (demanded options);
    }

-- ---- for private clauses

-- why no parser is ready: there is no such moment, or else a member is no claim, or else a name is no text
pub data IsReadyFault (members : Members) (names : Items) (now : ℤ) : Refusal → Type 0 where
  not_begun : ¬ IsTimestampNanos now → IsReadyFault members names now InvalidMoment
  not_expected : IsTimestampNanos now → IsSome (first_odd members) → IsReadyFault members names now Unexpected
  not_named : IsTimestampNanos now → first_odd members ≡ None → are_texts names ≡ false → IsReadyFault members names now NotNames

-- the fault for an error of admitting
abbrev pub admit_fault : AdmitError → Fault
admit_fault (Key error) = Refused (key_refusal error)
admit_fault (Parser error) = Unparsed error
admit_fault (NoMemory source) = Refused Memory

-- a parser checks what is expected, within the demands, for a token of these texts, which are bound to a footer and an assertion
pub record IsPrepared {B : Type 0} (expected : List ℕ) (now : ℤ) (demands : Demands) (token footer assertion : List ℕ)
    (checks : Checks B) (moment : Timestamp) (leeway : ℕ) (longest : Option ℕ) (expected_footer : Option Footer)
    (expected_assertion : Option ImplicitAssertion) : Type 0 where
  pub texts : AreUtf8 (expected ∷ demands.names ∷ token ∷ footer ∷ assertion ∷ [])
  pub members : Members
  pub names : Items
  pub is_expected : IsExpected expected now demands members names moment
  pub rules : AreSame (rules_of checks) (all_required names (all_expected members (with_times (λ key. no_rule))))
  pub leeway_is : leeway ≡ demands.leeway
  pub longest_is : longest ≡ demands.longest
  pub footer_is : footer_of expected_footer ≡ footer
  pub has_footer : is_some expected_footer ≡ has_bytes footer
  pub assertion_is : assertion_of expected_assertion ≡ assertion
  pub has_assertion : is_some expected_assertion ≡ has_bytes assertion

-- why it does not: memory was refused, an argument is no text, or nothing can be expected
abbrev pub IsUnprepared : List ℕ → ℤ → Demands → List ℕ → List ℕ → List ℕ → Refusal → Type 0
IsUnprepared expected now demands token footer assertion refusal =
    (refusal ≡ Memory)
    ⊎ (((refusal ≡ NotUtf8) × ¬ AreUtf8 (expected ∷ demands.names ∷ token ∷ footer ∷ assertion ∷ []))
    ⊎ (AreUtf8 (expected ∷ demands.names ∷ token ∷ footer ∷ assertion ∷ []) × IsExpectingFault expected now demands refusal))

-- What C is refused with where a token is admitted, and that nothing else is refused where there is an answer.
use Rattle.std.proofs.Common.{◌≡◌, ◌∙◌, ◌⊎◌, ◌||◌, inl, inr, ℕ, ℤ, List, [], ◌∷◌, Bool, true, false, not, length, Some, None, Result, Ok, Err, IfOk, IfErr, MatchResult, IsOkAnd, String, Global, string_bytes, refl, sym, ap}
use Rattle.std.proofs.lemmas.Bool.{false≢true}
use Rattle.jiff.specs.Types.{Timestamp}
use Rattle.jiff.specs.Words.{IsTimestampNanos}
use Rattle.serde_json.specs.Data.{Items, Members, array, object}
use Rattle.serde_json.specs.Read.{read}
use Rattle.serde_json.specs.View.{view}
use Rattle.serde_json.specs.Written.{compact_text, has_float}
use Rattle.serde_json.specs.declared.value.Value.{Value}
use Rattle.rusty_paseto_claims.specs.Whole.{first_odd}
use Rattle.rusty_paseto_parts.specs.Limit.{has_long_footer, is_beyond}
use Rattle.rusty_paseto_parts.specs.Section.{sections}
use Rattle.rusty_paseto_parts.specs.declared.error.PasetoError.TheVariants as Token
use Rattle.rusty_paseto_core.specs.Reading.{Reading}
use Rattle.rusty_paseto_generic.specs.Error.Parser.{IsMemory}
use Rattle.rusty_paseto_generic.specs.Parsers.Parsing.{IsAnswerWithin, IsFirstFault}
use Rattle.rusty_paseto_generic.specs.declared.error.GenericParserError.{GenericParserError}
use Rattle.rusty_paseto_generic.specs.declared.error.GenericParserError.TheVariants as Parser
use Rattle.paseto_keys.specs.Claims.{admitted}
use Rattle.paseto_keys.specs.Error.{admit_error_in}
use Rattle.paseto_keys.specs.Reading.{reading_by}
use Rattle.paseto_keys.specs.declared.error.AdmitError.{AdmitError}
use Rattle.paseto_calls.specs.Admit.{Demands, IsExpected, IsExpectingFault, IsReadyFault, IsUnprepared, admit_fault, admitting, demanded, is_long, no_array, no_claim, no_moment, no_name, no_object, not_begun, not_expected, not_named}
use Rattle.paseto_calls.specs.Arguments.{AreUtf8}
use Rattle.paseto_calls.specs.Claims.{IsNoObject}
use Rattle.paseto_calls.specs.Fault.{fault_line, refusal_of}
use Rattle.paseto_calls.specs.HeldKey.{named_by}
use Rattle.paseto_calls.specs.Parse.{IsMemberFault, IsNameFault, IsNoArray, expected_rules, line_of, read_names}
use Rattle.paseto_calls.specs.Refusal.{parser_refusal}
use Rattle.paseto_calls.specs.Request.{AreTaken, IsFaultOf, IsMade, IsMadeWhole, Makes, Refuses, Request, no_memory, not_utf8, refused, status_line, told}
use Rattle.paseto_calls.specs.declared.admit.options.AdmitOptions.{AdmitOptions}
use Rattle.paseto_calls.specs.declared.fault.Fault.{Fault}
use Rattle.paseto_calls.specs.declared.fault.Fault.TheVariants.{Refused, Unparsed}
use Rattle.paseto_calls.specs.declared.held_key.HeldKey.{HeldKey}
use Rattle.paseto_calls.specs.declared.refusal.Refusal.{Refusal}
use Rattle.paseto_calls.specs.declared.refusal.Refusal.TheVariants.{InvalidMoment, Memory, NotNames, NotObject}
use Rattle.paseto_calls.proofs.ParseLemmas.{parsed_same, same_moment}
use Rattle.paseto_calls.proofs.Told.{memory_of_parser}

-- ---- why nothing is expected

same_members : (text : List ℕ) (one other : Members) → read text ≡ Some (object one) → read text ≡ Some (object other) → one ≡ other
same_members text one other first second = let same : Some (object one) ≡ Some (object other) = sym first ∙ second in cc

same_names : (text : List ℕ) (one other : Items) → read_names text ≡ Some (array one) → read_names text ≡ Some (array other) → one ≡ other
same_names text one other first second = let same : Some (array one) ≡ Some (array other) = sym first ∙ second in cc

-- what is expected is not refused
pub expecting_apart : (expected : List ℕ) (now : ℤ) (demands : Demands) (members : Members) (names : Items) (moment : Timestamp) (refusal : Refusal)
    → IsExpectingFault expected now demands refusal → IsExpected expected now demands members names moment → ⊥
expecting_apart expected now demands claims names moment refusal (no_object none) there = none claims there.is_object
expecting_apart expected now demands claims names moment refusal (no_array found is none) there = none names there.is_array
expecting_apart expected now demands claims names moment refusal (no_moment found other is named none) there =
    none (rw there.is_moment at moment.in_range)
expecting_apart expected now demands claims names moment refusal (no_claim found other is named at_moment odd) there =
    let same = same_members expected found claims is there.is_object in
    false≢true (rw (same, there.whole) at odd)
expecting_apart expected now demands claims names moment refusal (no_name found other is named at_moment whole none) there =
    let same = same_names demands.names other names named there.is_array in
    false≢true (sym (rw same at none) ∙ there.are_names)

module _ (expected : List ℕ) (now : ℤ) (demands : Demands) where
  pub object_unprepared : (found : Refusal) → (found ≡ Memory) ⊎ ((found ≡ NotObject) × IsNoObject expected)
      → (found ≡ Memory) ⊎ IsExpectingFault expected now demands found
  object_unprepared found (inl memory) = inl memory
  object_unprepared found (inr none) = inr (rw none.0 (no_object none.1))

  module _ (members : Members) (is : read expected ≡ Some (object members)) where
    pub names_unprepared : (found : Refusal) → (found ≡ Memory) ⊎ ((found ≡ NotNames) × IsNoArray demands.names)
        → (found ≡ Memory) ⊎ IsExpectingFault expected now demands found
    names_unprepared found (inl memory) = inl memory
    names_unprepared found (inr none) = inr (rw none.0 (no_array members is none.1))

    module _ (names : Items) (named : read_names demands.names ≡ Some (array names)) where
      unready : (refusal : Refusal) → IsReadyFault members names now refusal → IsExpectingFault expected now demands refusal
      unready refusal (not_begun none) = no_moment members names is named none
      unready refusal (not_expected moment odd) = no_claim members names is named moment odd
      unready refusal (not_named moment whole none) = no_name members names is named moment whole none

      pub ready_unprepared : (found : Refusal) → (found ≡ Memory) ⊎ IsReadyFault members names now found
          → (found ≡ Memory) ⊎ IsExpectingFault expected now demands found
      ready_unprepared found (inl memory) = inl memory
      ready_unprepared found (inr fault) = inr (unready found fault)

-- why no parser is ready
pub begin_unready : (found : Members) (names : Items) (now : ℤ) (refusal : Refusal)
    → (refusal ≡ Memory) ⊎ ((refusal ≡ InvalidMoment) × ¬ IsTimestampNanos now) → (refusal ≡ Memory) ⊎ IsReadyFault found names now refusal
begin_unready found names now refusal (inl memory) = inl memory
begin_unready found names now refusal (inr none) = inr (rw none.0 (not_begun none.1))

pub member_unready : (found : Members) (names : Items) (now : ℤ) (refusal : Refusal) → IsTimestampNanos now
    → (refusal ≡ Memory) ⊎ IsMemberFault found refusal → (refusal ≡ Memory) ⊎ IsReadyFault found names now refusal
member_unready found names now refusal moment (inl memory) = inl memory
member_unready found names now refusal moment (inr fault) = inr (rw fault.1 (not_expected moment fault.0))

pub name_unready : (found : Members) (names : Items) (now : ℤ) (refusal : Refusal) → IsTimestampNanos now → first_odd found ≡ None
    → (refusal ≡ Memory) ⊎ IsNameFault names refusal → (refusal ≡ Memory) ⊎ IsReadyFault found names now refusal
name_unready found names now refusal moment whole (inl memory) = inl memory
name_unready found names now refusal moment whole (inr fault) = inr (rw fault.1 (not_named moment whole fault.0))

-- an argument is a text, and what is expected is refused
pub then_unprepared : (expected : List ℕ) (now : ℤ) (demands : Demands) (token footer assertion : List ℕ) (found : Refusal)
    → AreUtf8 (expected ∷ demands.names ∷ token ∷ footer ∷ assertion ∷ []) → (found ≡ Memory) ⊎ IsExpectingFault expected now demands found
    → IsUnprepared expected now demands token footer assertion found
then_unprepared expected now demands token footer assertion found texts (inl memory) = inl memory
then_unprepared expected now demands token footer assertion found texts (inr fault) = inr (inr (texts, fault))

-- ---- the answer

negated : (b : Bool) → not b ≡ true → b ≡ false
negated true is = absurd (false≢true is)
negated false is = refl

-- what is written of what was admitted
abbrev pub IsText : Result Value AdmitError → Result (String Global) Fault → Type 0
IsText value_or_error result =
    IfOk result (λ text. IsOkAnd value_or_error (λ value. has_float (view value) ≡ false → string_bytes text ≡ compact_text (view value)))
    × IfErr result (λ fault. MatchResult value_or_error (λ value. fault ≡ Refused Memory) (λ error. fault ≡ admit_fault error))

-- a parser's error is refused, and told, as it is
pub same_parser_refusal : (error : GenericParserError) → refusal_of (admit_fault (admit_error_in error)) ≡ parser_refusal error
same_parser_refusal (Parser.Memory source) = refl
same_parser_refusal error = refl

pub same_parser_line : (error : GenericParserError) → fault_line (admit_fault (admit_error_in error)) ≡ line_of error
same_parser_line (Parser.Memory source) = refl
same_parser_line error = refl

own_memory_line : (error : GenericParserError) → IsMemory error → line_of error ≡ status_line Memory
own_memory_line (Parser.Memory source) memory = refl
own_memory_line error memory = absurd memory

module _ (key : HeldKey) (token expected : List ℕ) (now : ℤ) (footer assertion : List ℕ) (options : AdmitOptions)
    (taken : AreTaken (admitting key token expected now footer assertion options)) (members : Members) (names : Items) (moment : Timestamp)
    (is : IsExpected expected now (demanded options) members names moment) where
  abbrev reading : Reading
  reading = reading_by (named_by key) footer assertion

  abbrev request : Request (List ℕ)
  request = admitting key token expected now footer assertion options

  pub long_told : is_long (demanded options) token ≡ true
      → Refuses request (parser_refusal (Parser.CipherError Token.TooLong)) (line_of (Parser.CipherError Token.TooLong))
  long_told long = told (parser_refusal (Parser.CipherError Token.TooLong)) (line_of (Parser.CipherError Token.TooLong)) taken (record {
    members = members;
    names = names;
    moment = moment;
    is_expected = is;
    error = Parser.CipherError Token.TooLong;
    is_fault = inl (long, refl);
    is_refusal = refl;
    is_line = refl;
  })

  fault_told : is_long (demanded options) token ≡ false → (error : GenericParserError)
      → IsMemory error ⊎ IsFirstFault reading (expected_rules members names moment (demanded options).leeway) token error
      → Refuses request (parser_refusal error) (line_of error)
  fault_told short error (inl memory) = rw (memory_of_parser error memory, own_memory_line error memory) no_memory
  fault_told short error (inr fault) = told (parser_refusal error) (line_of error) taken (record {
    members = members;
    names = names;
    moment = moment;
    is_expected = is;
    error = error;
    is_fault = inr (short, fault);
    is_refusal = refl;
    is_line = refl;
  })

  error_made : (error : GenericParserError) (fault : Fault) → fault ≡ admit_fault (admit_error_in error)
      → Refuses request (parser_refusal error) (line_of error) → IsFaultOf request fault
  error_made error fault same reason = rw (same, same_parser_refusal error, same_parser_line error) reason

  module _ (fine : has_long_footer (demanded options).longest_footer (sections token) ≡ false) where
    same_length : is_long (demanded options) token ≡ is_beyond (demanded options).longest (length token)
    same_length = ap (λ long. long || is_beyond (demanded options).longest (length token)) fine

    made_within : (beyond : Bool) → is_beyond (demanded options).longest (length token) ≡ beyond
        → (answer : Result Value GenericParserError) (result : Result (String Global) Fault)
        → IsAnswerWithin (demanded options).longest reading (expected_rules members names moment (demanded options).leeway) token answer
        → IsText (admitted answer) result → IsMade request result
    made_within true long (Ok value) result answer written = absurd (let e : Ok value ≡ Err (Parser.CipherError Token.TooLong) = answer.long long in cc)
    made_within true long (Err error) (Ok text) answer written = absurd written.0
    made_within true long (Err error) (Err fault) answer written =
        let e : Err error ≡ Err (Parser.CipherError Token.TooLong) = answer.long long in
        let own : error ≡ Parser.CipherError Token.TooLong = cc in
        error_made error fault written.1 (rw own (long_told (same_length ∙ long)))
    made_within false short (Ok value) (Ok text) answer written = record {
      taken = taken;
      makes = record {
        members = members;
        names = names;
        moment = moment;
        is_expected = is;
        is_short = same_length ∙ short;
        value = view value;
        is_parsed = (answer.answer short).parsed;
        is_text = written.0 (negated (has_float (view value)) (answer.answer short).parsed.is_value.is_read.whole);
      };
    }
    made_within false short (Ok value) (Err fault) answer written = rw written.1 no_memory
    made_within false short (Err error) (Ok text) answer written = absurd written.0
    made_within false short (Err error) (Err fault) answer written =
        error_made error fault written.1 (fault_told (same_length ∙ short) error (answer.answer short).fault)

    pub answer_made : (found : Result Value AdmitError) (answer : Result Value GenericParserError) (result : Result (String Global) Fault)
        → found ≡ admitted answer
        → IsAnswerWithin (demanded options).longest reading (expected_rules members names moment (demanded options).leeway) token answer
        → IsText found result → IsMade request result
    answer_made found answer result same within written =
        made_within (is_beyond (demanded options).longest (length token)) refl answer result within (rw same at written)

    whole_within : (answer : Result Value GenericParserError) (result : Result (String Global) Fault)
        → IsAnswerWithin (demanded options).longest reading (expected_rules members names moment (demanded options).leeway) token answer
        → IsText (admitted answer) result → IsMadeWhole request result
    whole_within answer (Ok text) within written = λ other makes. tt
    whole_within (Ok value) (Err fault) within written = λ other makes. ap refusal_of written.1
    whole_within (Err error) (Err fault) within written = λ other makes.
        let there = makes.makes in
        let same = same_members expected there.members members there.is_expected.is_object is.is_object in
        let same_named = same_names (demanded options).names there.names names there.is_expected.is_array is.is_array in
        let then = same_moment there.moment moment (there.is_expected.is_moment ∙ sym is.is_moment) (demanded options).leeway members names in
        let parsed = parsed_same (expected_rules members names there.moment (demanded options).leeway) (expected_rules members names moment (demanded options).leeway) then
        reading token there.value (rw (same, same_named) at there.is_parsed) in
        ap refusal_of written.1
        ∙ (same_parser_refusal error ∙ memory_of_parser error ((within.answer (sym same_length ∙ there.is_short)).complete there.value parsed))

    pub answer_whole : (found : Result Value AdmitError) (answer : Result Value GenericParserError) (result : Result (String Global) Fault)
        → found ≡ admitted answer
        → IsAnswerWithin (demanded options).longest reading (expected_rules members names moment (demanded options).leeway) token answer
        → IsText found result → IsMadeWhole request result
    answer_whole found answer result same within written = whole_within answer result within (rw same at written)

-- what could not be prepared is refused
pub unprepared_refuses : (key : HeldKey) (token expected : List ℕ) (now : ℤ) (footer assertion : List ℕ) (options : AdmitOptions) (found : Refusal)
    → (admitting key token expected now footer assertion options).fault ≡ None
    → IsUnprepared expected now (demanded options) token footer assertion found
    → Refuses (admitting key token expected now footer assertion options) found (status_line found)
unprepared_refuses key token expected now footer assertion options found fine (inl memory) = rw memory no_memory
unprepared_refuses key token expected now footer assertion options found fine (inr (inl none)) = rw none.0 (not_utf8 fine none.1)
unprepared_refuses key token expected now footer assertion options found fine (inr (inr reason)) =
    refused found (record { fine = fine; texts = reason.0 }) reason.1

pub unprepared_only : (key : HeldKey) (token expected : List ℕ) (now : ℤ) (footer assertion : List ℕ) (options : AdmitOptions) (found : Refusal)
    (text : List ℕ) → IsUnprepared expected now (demanded options) token footer assertion found
    → Makes (admitting key token expected now footer assertion options) text → found ≡ Memory
unprepared_only key token expected now footer assertion options found text (inl memory) makes = memory
unprepared_only key token expected now footer assertion options found text (inr (inl none)) makes = absurd (none.1 makes.taken.texts)
unprepared_only key token expected now footer assertion options found text (inr (inr reason)) makes =
    absurd (expecting_apart expected now (demanded options) makes.makes.members makes.makes.names makes.makes.moment found reason.1 makes.makes.is_expected)

-- a footer that is too long
pub long_footer_told : (key : HeldKey) (token expected : List ℕ) (now : ℤ) (footer assertion : List ℕ) (options : AdmitOptions)
    (taken : AreTaken (admitting key token expected now footer assertion options)) (members : Members) (names : Items) (moment : Timestamp)
    → IsExpected expected now (demanded options) members names moment
    → has_long_footer (demanded options).longest_footer (sections token) ≡ true
    → IsFaultOf (admitting key token expected now footer assertion options) (Unparsed (Parser.CipherError Token.TooLong))
long_footer_told key token expected now footer assertion options taken claims names moment is long =
    long_told key token expected now footer assertion options taken claims names moment is
    (ap (λ beyond. beyond || is_beyond (demanded options).longest (length token)) long)

pub long_footer_only : (key : HeldKey) (token expected : List ℕ) (now : ℤ) (footer assertion : List ℕ) (options : AdmitOptions)
    → has_long_footer (demanded options).longest_footer (sections token) ≡ true
    → (text : List ℕ) → Makes (admitting key token expected now footer assertion options) text → ⊥
long_footer_only key token expected now footer assertion options long text makes =
    false≢true (sym makes.makes.is_short ∙ ap (λ beyond. beyond || is_beyond (demanded options).longest (length token)) long)

-- Claims that are expected one after another, and what a parser answers where it checks them.
use Rattle.std.proofs.Common.{◌≡◌, ◌∙◌, ◌⊎◌, inl, inr, ℕ, ℤ, pos, ◌*◌, ◌+ℤ◌, ◌-ℤ◌, int_le, List, ◌∷◌, Bool, true, false, Option, Some, None, MatchOption, Result, Ok, Err, if◌then◌else◌, ◌||◌, codes, String, Global, string_bytes, refl, sym, ap, rules}
use Rattle.std.specs.Option.{option_map_or}
use Rattle.std.specs.Str.{bytes_eq}
use Rattle.serde_json.specs.Data.{Data, null, boolean, number, string, array, object, Items, no_items, item, Members, no_members, member}
use Rattle.serde_json.specs.View.{items_view, view}
use Rattle.serde_json.specs.Written.{has_float}
use Rattle.serde_json.specs.declared.value.Value.{Value, String as Text, the_lemmas}
use Rattle.jiff.specs.Types.{Timestamp}
use Rattle.rusty_paseto_claims.specs.Claim.{gives, one_member, refuses}
use Rattle.rusty_paseto_claims.specs.Error.{Fault, expired, fault_of, unexpected, use_before_available}
use Rattle.rusty_paseto_claims.specs.Whole.{first_odd, is_whole}
use Rattle.rusty_paseto_core.specs.Reading.{Reading}
use Rattle.rusty_paseto_generic.specs.Error.Parser.{IsMemory, IsRefusal}
use Rattle.rusty_paseto_generic.specs.Parsers.Held.{default_date, checked, rules_of, verdicts_of, with_times}
use Rattle.rusty_paseto_generic.specs.Parsers.Parsing.{IsAnswerWithin, IsCheckFault, IsFirstFault, IsParseAnswer, IsParsed, IsTextFault, IsValueOf}
use Rattle.rusty_paseto_generic.specs.Parsers.Rules.{AreSame, Rule, Rules, edited, fault_in, no_rule, whole_answer, with_both, with_required, with_stored}
use Rattle.rusty_paseto_generic.specs.Parsers.Verdicts.{IsFirstFailing, PassesAll}
use Rattle.rusty_paseto_generic.specs.Parsers.Times.{expiry, not_before, time_fault, times_at}
use Rattle.rusty_paseto_generic.specs.Validator.{Verdict}
use Rattle.rusty_paseto_generic.specs.declared.error.GenericParserError.{GenericParserError}
use Rattle.rusty_paseto_generic.specs.declared.error.GenericParserError.TheVariants as Parser
use Rattle.rusty_paseto_generic.specs.declared.parsers.checks.Checks.{Checks}
use Rattle.rusty_paseto_generic.specs.declared.parsers.checks.Checker.{Checker}
use Rattle.rusty_paseto_generic.specs.declared.parsers.checks.Checker.TheVariants.{Expiry, NotBefore}
use Rattle.rusty_paseto_generic.proofs.RuleLemmas.{edited-same}
use Rattle.paseto_calls.specs.Parse.{IsMemberFault, IsNameFault, all_expected, all_required, are_texts, expected_rules, timed}
use Rattle.paseto_calls.specs.Refusal.{fault_refusal, parser_refusal}
use Rattle.paseto_calls.specs.declared.refusal.Refusal.TheVariants.{Memory, Unexpected}

-- ---- a member that is expected

-- the first member that is odd is among the rest where this one is whole
pub odd_later : (key : List ℕ) (value : Data) (more : Members) → is_whole value ≡ true → first_odd (member key value more) ≡ first_odd more
odd_later key value more whole = rw whole refl

pub all_expected-same : {J : Type 0} (found : Members) (r s : Rules J) → AreSame r s → AreSame (all_expected found r) (all_expected found s)
all_expected-same no_members r s same = same
all_expected-same (member key value more) r s same =
    all_expected-same more (edited key (with_stored (one_member key value)) r) (edited key (with_stored (one_member key value)) s)
    (edited-same key (with_stored (one_member key value)) r s same)

refused_member : (whole : Bool) (found : Option Fault) (key : List ℕ) (value : Data)
    → MatchOption found ⊥ (λ fault. fault_in (if whole then gives value else refuses (unexpected key)) ≡ Some fault)
    → (whole ≡ false) × (option_map_or fault_refusal found Memory ≡ Unexpected)
refused_member whole None key value is = absurd is
refused_member true (Some fault) key value is = absurd (let e : None ≡ Some fault = is in cc)
refused_member false (Some fault) key value is =
    let same : unexpected key ≡ fault = cc in (refl, ap fault_refusal (sym same))

odd_here : (key : List ℕ) (value : Data) (more : Members) → is_whole value ≡ false → first_odd (member key value more) ≡ Some key
odd_here key value more odd = rw odd refl

-- a member that is refused is one that is not whole
pub member_refuses : (error : GenericParserError) (key : List ℕ) (value : Data) (more all : Members)
    → first_odd all ≡ first_odd (member key value more) → IsRefusal (fault_in (whole_answer key (gives value))) error
    → (parser_refusal error ≡ Memory) ⊎ IsMemberFault all (parser_refusal error)
member_refuses (Parser.Memory source) key value more all same is = inl refl
member_refuses (Parser.ClaimError source) key value more all same is =
    let both = refused_member (is_whole value) (fault_of source) key value is in
    let odd = odd_here key value more both.0 in
    inr (rw (same, odd) refl, both.1)
member_refuses error key value more all same is = absurd is

-- checking the times keeps what is the same
pub with_times-same : {B : Type 0} (r s : Rules (Checker B)) → AreSame r s → AreSame (with_times r) (with_times s)
with_times-same r s same = edited-same (codes "nbf") (with_both NotBefore (default_date (codes "nbf"))) _ _
    (edited-same (codes "exp") (with_both Expiry (default_date (codes "exp"))) r s same)

-- a failed allocation is refused as one
pub memory_refuses : (error : GenericParserError) → IsMemory error → (names : Items) → (parser_refusal error ≡ Memory) ⊎ IsNameFault names (parser_refusal error)
memory_refuses (Parser.Memory source) memory names = inl refl
memory_refuses error memory names = absurd memory

-- ---- the names

-- a text stands for itself
view_text : (text : String Global) → view (Text text) ≡ string (string_bytes text)
view_text text = search (rules, the_lemmas)

-- a name that is a text is required, and then the rest
pub name_required : {J : Type 0} (name : Value) (text : String Global) (rest : List Value) (r : Rules J) → name ≡ Text text
    → AreSame (all_required (items_view rest) (edited (string_bytes text) with_required r)) (all_required (items_view (name ∷ rest)) r)
name_required name text rest r is = λ key. rw (is, view_text text) refl

pub name_is_text : (name : Value) (text : String Global) (rest : List Value) → name ≡ Text text
    → are_texts (items_view (name ∷ rest)) ≡ are_texts (items_view rest)
name_is_text name text rest is = rw (is, view_text text) refl

pub all_required-same : {J : Type 0} (names : Items) (r s : Rules J) → AreSame r s → AreSame (all_required names r) (all_required names s)
all_required-same no_items r s same = same
all_required-same (item (string name) more) r s same =
    all_required-same more (edited name with_required r) (edited name with_required s) (edited-same name with_required r s same)
all_required-same (item null more) r s same = all_required-same more r s same
all_required-same (item (boolean b) more) r s same = all_required-same more r s same
all_required-same (item (number n) more) r s same = all_required-same more r s same
all_required-same (item (array items) more) r s same = all_required-same more r s same
all_required-same (item (object found) more) r s same = all_required-same more r s same

-- ---- the rules that are checked

module _ {B : Type 0} (verdict : B → Verdict) (moment : Timestamp) (leeway : ℕ) where
  edited_checked : (here : Bool) (value : Data) (old : Rule (Checker B)) (new : Rule Verdict) → checked verdict (times_at moment leeway) old ≡ new
      → checked verdict (times_at moment leeway) (if here then with_stored value old else old) ≡ (if here then with_stored value new else new)
  edited_checked true value old new same = ap (with_stored value) same
  edited_checked false value old new same = same

  all_with_checkers : (found : Members) (old : Rules (Checker B)) (new : Rules Verdict) → ((key : List ℕ) → checked verdict (times_at moment leeway) (old key) ≡ new key)
      → (key : List ℕ) → checked verdict (times_at moment leeway) (all_expected found old key) ≡ all_expected found new key
  all_with_checkers no_members old new same = same
  all_with_checkers (member name value more) old new same =
      all_with_checkers more (edited name (with_stored (one_member name value)) old) (edited name (with_stored (one_member name value)) new)
      (λ key. edited_checked (bytes_eq name key) (one_member name value) (old key) (new key) (same key))

  -- the times, where a key is or is not one of the two
  times_checked : (before end : Bool)
      → checked verdict (times_at moment leeway) (if before then with_both NotBefore (default_date (codes "nbf")) (if end then with_both Expiry (default_date (codes "exp")) no_rule else no_rule)
      else (if end then with_both Expiry (default_date (codes "exp")) no_rule else no_rule))
      ≡ (if before then with_both (not_before (times_at moment leeway)) (default_date (codes "nbf")) (if end then with_both (expiry (times_at moment leeway)) (default_date (codes "exp")) no_rule else no_rule)
      else (if end then with_both (expiry (times_at moment leeway)) (default_date (codes "exp")) no_rule else no_rule))
  times_checked true true = refl
  times_checked true false = refl
  times_checked false true = refl
  times_checked false false = refl

  required_checked : (here : Bool) (old : Rule (Checker B)) (new : Rule Verdict) → checked verdict (times_at moment leeway) old ≡ new
      → checked verdict (times_at moment leeway) (if here then with_required old else old) ≡ (if here then with_required new else new)
  required_checked true old new same = ap with_required same
  required_checked false old new same = same

  all_required_checked : (names : Items) (old : Rules (Checker B)) (new : Rules Verdict) → ((key : List ℕ) → checked verdict (times_at moment leeway) (old key) ≡ new key)
      → (key : List ℕ) → checked verdict (times_at moment leeway) (all_required names old key) ≡ all_required names new key
  all_required_checked no_items old new same = same
  all_required_checked (item (string name) more) old new same = all_required_checked more (edited name with_required old) (edited name with_required new)
      (λ key. required_checked (bytes_eq name key) (old key) (new key) (same key))
  all_required_checked (item null more) old new same = all_required_checked more old new same
  all_required_checked (item (boolean b) more) old new same = all_required_checked more old new same
  all_required_checked (item (number n) more) old new same = all_required_checked more old new same
  all_required_checked (item (array items) more) old new same = all_required_checked more old new same
  all_required_checked (item (object found) more) old new same = all_required_checked more old new same

  -- what is expected and required, beside the times
  pub expected_checked : (found : Members) (names : Items) (key : List ℕ)
      → checked verdict (times_at moment leeway) (all_required names (all_expected found (with_times (λ name. no_rule))) key)
      ≡ expected_rules found names moment leeway key
  expected_checked found names = all_required_checked names (all_expected found (with_times (λ name. no_rule))) (all_expected found (timed moment leeway))
      (all_with_checkers found (with_times (λ name. no_rule)) (timed moment leeway)
      (λ key. times_checked (bytes_eq (codes "nbf") key) (bytes_eq (codes "exp") key)))

-- the times as they are checked at so many nanoseconds
abbrev expiry_at : ℕ → ℤ → Verdict
expiry_at leeway n = time_fault (λ text instant. if int_le instant (n -ℤ pos (leeway * 1_000_000_000)) then Some expired else None)

abbrev not_before_at : ℕ → ℤ → Verdict
not_before_at leeway n = time_fault (λ text instant. if int_le (n +ℤ pos (leeway * 1_000_000_000)) instant then Some (use_before_available text) else None)

abbrev timed_at : ℕ → ℤ → Rules Verdict
timed_at leeway n = edited (codes "nbf") (with_both (not_before_at leeway n) (default_date (codes "nbf")))
    (edited (codes "exp") (with_both (expiry_at leeway n) (default_date (codes "exp"))) (λ key. no_rule))

-- of a moment nothing counts but its nanoseconds
pub same_moment : (one other : Timestamp) → one.nanosecond ≡ other.nanosecond → (leeway : ℕ) (found : Members) (names : Items)
    → AreSame (expected_rules found names one leeway) (expected_rules found names other leeway)
same_moment one other is leeway found names = all_required-same names (all_expected found (timed one leeway)) (all_expected found (timed other leeway))
    (all_expected-same found (timed one leeway) (timed other leeway) (λ key. ap (λ n. timed_at leeway n key) is))

-- ---- the same rules

module _ (r s : Rules Verdict) (same : AreSame r s) where
  passes_same : (value : Data) → PassesAll r value → PassesAll s value
  passes_same value passes = λ key. rw (same key) at (passes key)

  value_same : (text : List ℕ) (value : Data) → IsValueOf r text value → IsValueOf s text value
  value_same text value of = record { is_read = of.is_read; passes = passes_same value of.passes }

  pub parsed_same : (reading : Reading) (token : List ℕ) (value : Data) → IsParsed reading r token value → IsParsed reading s token value
  parsed_same reading token value parsed =
      record { text = parsed.text; is_read = parsed.is_read; is_value = value_same parsed.text value parsed.is_value }

  failing_same : (value : Data) (fault : Fault) → IsFirstFailing r value fault → IsFirstFailing s value fault
  failing_same value fault first = record {
    key = first.key;
    fails = rw (same first.key) at first.fails;
    before = λ other less. rw (same other) at (first.before other less);
  }

  check_same : (value : Data) (error : GenericParserError) → IsCheckFault r value error → IsCheckFault s value error
  check_same value (Parser.ClaimError source) fault = (fault.0, fault.1, failing_same value fault.0 fault.2)
  check_same value error fault = absurd fault

  text_same : (text : List ℕ) (error : GenericParserError) → IsTextFault r text error → IsTextFault s text error
  text_same text error (inl fault) = inl fault
  text_same text error (inr fault) = inr (fault.0, fault.1, check_same fault.0 error fault.2)

  fault_same : (reading : Reading) (token : List ℕ) (error : GenericParserError) → IsFirstFault reading r token error → IsFirstFault reading s token error
  fault_same reading token (Parser.CipherError source) fault = fault
  fault_same reading token (Parser.ClaimError source) fault = (fault.0, fault.1, text_same fault.0 (Parser.ClaimError source) fault.2)
  fault_same reading token (Parser.PayloadJsonError source) fault = (fault.0, fault.1, text_same fault.0 (Parser.PayloadJsonError source) fault.2)
  fault_same reading token (Parser.Memory source) fault = (fault.0, fault.1, text_same fault.0 (Parser.Memory source) fault.2)

module _ (r s : Rules Verdict) (same : AreSame r s) (back : AreSame s r) (reading : Reading) (token : List ℕ) where
  answer_same : (result : Result Value GenericParserError) → IsParseAnswer reading r token result → IsParseAnswer reading s token result
  answer_same (Ok value) answer = record {
    parsed = parsed_same r s same reading token (view value) answer.parsed;
    complete = λ other parsed. answer.complete other (parsed_same s r back reading token other parsed);
    count = answer.count;
    fault = tt;
  }
  answer_same (Err error) answer = record {
    parsed = tt;
    complete = λ other parsed. answer.complete other (parsed_same s r back reading token other parsed);
    count = answer.count;
    fault = elim answer.fault [ inl memory ↦ inl memory | inr fault ↦ inr (fault_same r s same reading token error fault) ];
  }

-- what such a parser checks
pub expected_verdicts : {B : Type 0} (verdict : B → Verdict) (checks : Checks B) (moment : Timestamp) (leeway within : ℕ) (found : Members) (names : Items)
    → leeway ≡ within → AreSame (rules_of checks) (all_required names (all_expected found (with_times (λ key. no_rule))))
    → AreSame (verdicts_of verdict (times_at moment leeway) checks) (expected_rules found names moment within)
expected_verdicts {B} verdict checks moment leeway within found names equal same =
    rw (← equal) (λ key. ap (checked verdict (times_at moment leeway)) (same key) ∙ expected_checked verdict moment leeway found names key)

-- what a parser answers that expects the members and the names, and checks at the moment with the leeway
pub expected_answer : {B : Type 0} (verdict : B → Verdict) (checks : Checks B) (moment : Timestamp) (leeway : ℕ) (found : Members) (names : Items)
    (longest : Option ℕ) (reading : Reading) (token : List ℕ) (result : Result Value GenericParserError)
    → AreSame (rules_of checks) (all_required names (all_expected found (with_times (λ key. no_rule))))
    → IsAnswerWithin longest reading (verdicts_of verdict (times_at moment leeway) checks) token result
    → IsAnswerWithin longest reading (expected_rules found names moment leeway) token result
expected_answer {B} verdict checks moment leeway found names longest reading token result same answer =
    let all : (key : List ℕ) → verdicts_of verdict (times_at moment leeway) checks key ≡ expected_rules found names moment leeway key =
    λ key. ap (checked verdict (times_at moment leeway)) (same key) ∙ expected_checked verdict moment leeway found names key in
    record {
      long = answer.long;
      answer = λ short. answer_same (verdicts_of verdict (times_at moment leeway) checks) (expected_rules found names moment leeway) all (λ key. sym (all key))
          reading token result (answer.answer short);
    }

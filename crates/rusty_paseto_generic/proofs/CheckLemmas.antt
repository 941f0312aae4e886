-- A walk over the keys in byte order comes to the first failing one.
use Rattle.std.proofs.Common.{◌≡◌, ◌⊎◌, inl, inr, ℕ, List, [], ◌∷◌, cond, false, is_eq, is_some, Option, Some, None, Result, Ok, Err, IfErr, OnOk, String, Global, Ordering, Less, Equal, Greater, nat_cmp, string_bytes, string_cmp, refl}
use Rattle.std.proofs.lemmas.Bool.{false≢true}
use Rattle.std.specs.Prelude.{⊤, MatchOption}
use Rattle.std.specs.BTreeMap.{is_at}
use Rattle.std.specs.Cmp.Lexicographic.{slice_cmp}
use Rattle.std.specs.List.{AllByRecursion}
use Rattle.std.specs.List.Sorted.{IsStrictlySortedBy}
use Rattle.std.specs.Map.{keys_of, lookup}
use Rattle.std.specs.Option.{option_map_or}
use Rattle.std.proofs.lemmas.Cmp.{nat_list_cmp_total, tied_itself}
use Rattle.std.proofs.lemmas.Map.Lookups.{exact_bytes}
use Rattle.serde_json.specs.Data.{Data, null}
use Rattle.serde_json.specs.Find.{as_null}
use Rattle.rusty_paseto_claims.specs.Claim.{one_member}
use Rattle.rusty_paseto_claims.specs.Error.{Fault, fault_of}
use Rattle.rusty_paseto_claims.specs.Same.{IsSame}
use Rattle.rusty_paseto_claims.specs.declared.PasetoClaimError.{PasetoClaimError}
use Rattle.rusty_paseto_generic.specs.Validator.{IfFault, Verdict}
use Rattle.rusty_paseto_generic.specs.Parsers.Held.{checked, rule_of}
use Rattle.rusty_paseto_generic.specs.Parsers.Rules.{Rule, Rules, no_rule}
use Rattle.rusty_paseto_generic.specs.Parsers.Verdicts.{Fails, IsFirstFailing, IsMismatch, Matches, Passes, PassesAll, entry, mismatch}
use Rattle.rusty_paseto_generic.specs.declared.parsers.checks.Check.{Check}
use Rattle.rusty_paseto_generic.specs.declared.parsers.times.Times.{Times}

-- the entry of a key
abbrev pub Named : Type 0 → Type 0
Named B = String Global × Check B

-- what is checked under each key by these entries
abbrev pub rules_in : {B : Type 0} → (B → Verdict) → Times → List (Named B) → Rules Verdict
rules_in verdict times es key = checked verdict times (option_map_or (rule_of key) (lookup (is_at (λ k. slice_cmp nat_cmp key (string_bytes k))) es) no_rule)

-- what the value has under the entry's key passes, or has the fault
abbrev pub PassesAt : {B : Type 0} → (B → Verdict) → Times → Data → Named B → Type 0
PassesAt verdict times value e = Passes (checked verdict times (rule_of (string_bytes e.0) e.1)) (string_bytes e.0) (entry (string_bytes e.0) value)

abbrev pub FailsAt : {B : Type 0} → (B → Verdict) → Times → Data → Named B → Fault → Type 0
FailsAt verdict times value e fault = Fails (checked verdict times (rule_of (string_bytes e.0) e.1)) (string_bytes e.0) (entry (string_bytes e.0) value) fault

-- it passes for each entry
abbrev pub EachPasses : {B : Type 0} → (B → Verdict) → Times → Data → List (Named B) → Type 0
EachPasses verdict times value [] = ⊤
EachPasses verdict times value (e ∷ es) = PassesAt verdict times value e × EachPasses verdict times value es

-- the first of the entries for which it does not pass has the fault
abbrev pub FailsFirst : {B : Type 0} → (B → Verdict) → Times → Data → List (Named B) → Fault → Type 0
FailsFirst verdict times value [] fault = ⊥
FailsFirst verdict times value (e ∷ es) fault = FailsAt verdict times value e fault ⊎ (PassesAt verdict times value e × FailsFirst verdict times value es fault)

-- ---- where all pass

passes_at : {B : Type 0} (verdict : B → Verdict) (times : Times) (value : Data) (e : Named B) (es : List (Named B)) (key : List ℕ) (order : Ordering)
    → slice_cmp nat_cmp key (string_bytes e.0) ≡ order → PassesAt verdict times value e
    → Passes (rules_in verdict times es key) key (entry key value)
    → Passes (checked verdict times (option_map_or (rule_of key) (cond (is_eq order) (Some e.1) (lookup (is_at (λ k. slice_cmp nat_cmp key (string_bytes k))) es)) no_rule)) key (entry key value)
passes_at verdict times value e es key Less is here later = later
passes_at verdict times value e es key Equal is here later = rw (exact_bytes key (string_bytes e.0) is) here
passes_at verdict times value e es key Greater is here later = later

pub passes_all : {B : Type 0} (verdict : B → Verdict) (times : Times) (value : Data) (es : List (Named B)) → EachPasses verdict times value es
    → PassesAll (rules_in verdict times es) value
passes_all verdict times value [] each key = (λ never. absurd (false≢true never), tt)
passes_all verdict times value (e ∷ es) each key =
    passes_at verdict times value e es key (slice_cmp nat_cmp key (string_bytes e.0)) refl each.0 (passes_all verdict times value es each.1 key)

-- ---- where one fails

-- a text below each key is none of them
none_below : {B : Type 0} (verdict : B → Verdict) (times : Times) (key : List ℕ) (es : List (Named B))
    → AllByRecursion (λ (y : String Global). slice_cmp nat_cmp key (string_bytes y) ≡ Less) (keys_of es)
    → rules_in verdict times es key ≡ no_rule
none_below verdict times key [] below = refl
none_below verdict times key (e ∷ es) below = rw below.0 (none_below verdict times key es below.1)

below_more : (key : List ℕ) (first : String Global) (ks : List (String Global)) → slice_cmp nat_cmp key (string_bytes first) ≡ Less
    → AllByRecursion (λ (y : String Global). string_cmp first y ≡ Less) ks
    → AllByRecursion (λ (y : String Global). slice_cmp nat_cmp key (string_bytes y) ≡ Less) ks
below_more key first [] less all = tt
below_more key first (k ∷ ks) less all =
    (nat_list_cmp_total.trans key (string_bytes first) (string_bytes k) less all.0, below_more key first ks less all.1)

passes_none : (rule : Rule Verdict) (key : List ℕ) (found : Data) → rule ≡ no_rule → Passes rule key found
passes_none rule key found is = rw is (λ never. absurd (false≢true never), tt)

fails_no_rule : (key : List ℕ) (found : Data) (fault : Fault) → Fails no_rule key found fault → ⊥
fails_no_rule key found fault (inl absent) = false≢true absent.0.0
fails_no_rule key found fault (inr other) = other.1

fails_none : (rule : Rule Verdict) (key : List ℕ) (found : Data) (fault : Fault) → rule ≡ no_rule → Fails rule key found fault → ⊥
fails_none rule key found fault is fails = fails_no_rule key found fault (rw is at fails)

fails_same : (rule other : Rule Verdict) (key : List ℕ) (found : Data) (fault : Fault) → rule ≡ other → Fails other key found fault
    → Fails rule key found fault
fails_same rule other key found fault is fails = rw is fails

-- what is checked under the first key, and under another
here : {B : Type 0} (verdict : B → Verdict) (times : Times) (e : Named B) (es : List (Named B))
    → rules_in verdict times (e ∷ es) (string_bytes e.0) ≡ checked verdict times (rule_of (string_bytes e.0) e.1)
here verdict times e es = rw (tied_itself nat_list_cmp_total (string_bytes e.0)) refl

later_at : {B : Type 0} (verdict : B → Verdict) (times : Times) (e : Named B) (es : List (Named B)) (key : List ℕ) (order : Ordering)
    → slice_cmp nat_cmp key (string_bytes e.0) ≡ order → (key ≡ string_bytes e.0 → ⊥)
    → checked verdict times (option_map_or (rule_of key) (cond (is_eq order) (Some e.1) (lookup (is_at (λ k. slice_cmp nat_cmp key (string_bytes k))) es)) no_rule) ≡ rules_in verdict times es key
later_at verdict times e es key Less is apart = refl
later_at verdict times e es key Equal is apart = absurd (apart (exact_bytes key (string_bytes e.0) is))
later_at verdict times e es key Greater is apart = refl

later : {B : Type 0} (verdict : B → Verdict) (times : Times) (e : Named B) (es : List (Named B)) (key : List ℕ)
    → (key ≡ string_bytes e.0 → ⊥) → rules_in verdict times (e ∷ es) key ≡ rules_in verdict times es key
later verdict times e es key apart = later_at verdict times e es key (slice_cmp nat_cmp key (string_bytes e.0)) refl apart

first_here : {B : Type 0} (verdict : B → Verdict) (times : Times) (value : Data) (e : Named B) (es : List (Named B)) (fault : Fault)
    → AllByRecursion (λ (y : String Global). string_cmp e.0 y ≡ Less) (keys_of es) → FailsAt verdict times value e fault
    → IsFirstFailing (rules_in verdict times (e ∷ es)) value fault
first_here verdict times value e es fault above fails = record {
  key = string_bytes e.0;
  fails = fails_same _ _ _ _ fault (here verdict times e es) fails;
  before = λ other less. passes_none _ other _ (none_below verdict times other (e ∷ es) (less, below_more other e.0 (keys_of es) less above));
}

-- the failing key of the later entries is not the first one
apart_first : {B : Type 0} (verdict : B → Verdict) (times : Times) (value : Data) (e : Named B) (es : List (Named B)) (fault : Fault)
    → AllByRecursion (λ (y : String Global). string_cmp e.0 y ≡ Less) (keys_of es)
    → (key : List ℕ) → Fails (rules_in verdict times es key) key (entry key value) fault → key ≡ string_bytes e.0 → ⊥
apart_first verdict times value e es fault above key fails same =
    fails_none _ key _ fault (none_below verdict times key es (rw same above)) fails

first_later : {B : Type 0} (verdict : B → Verdict) (times : Times) (value : Data) (e : Named B) (es : List (Named B)) (fault : Fault)
    → AllByRecursion (λ (y : String Global). string_cmp e.0 y ≡ Less) (keys_of es) → PassesAt verdict times value e
    → IsFirstFailing (rules_in verdict times es) value fault → IsFirstFailing (rules_in verdict times (e ∷ es)) value fault
first_later verdict times value e es fault above passes first = record {
  key = first.key;
  fails = fails_same _ _ _ _ fault (later verdict times e es first.key (apart_first verdict times value e es fault above first.key first.fails)) first.fails;
  before = λ other less. passes_at verdict times value e es other (slice_cmp nat_cmp other (string_bytes e.0)) refl passes (first.before other less);
}

pub first_failing : {B : Type 0} (verdict : B → Verdict) (times : Times) (value : Data) (es : List (Named B)) (fault : Fault)
    → IsStrictlySortedBy string_cmp (keys_of es) → FailsFirst verdict times value es fault
    → IsFirstFailing (rules_in verdict times es) value fault
unfolding IsStrictlySortedBy
first_failing verdict times value [] fault sorted fails = absurd fails
first_failing verdict times value (e ∷ es) fault sorted (inl fails) = first_here verdict times value e es fault sorted.0 fails
first_failing verdict times value (e ∷ es) fault sorted (inr fails) =
    first_later verdict times value e es fault sorted.0 fails.0 (first_failing verdict times value es fault sorted.1 fails.1)

match_some : {A : Type 0} {P Q : A → Type 0} (found : Option A) → ((x : A) → P x → Q x) → MatchOption found ⊤ P → MatchOption found ⊤ Q
match_some None more is = is
match_some (Some x) more is = more x is

-- a fault of the first of the entries that are left is the first fault of all
pub fault_among : {B : Type 0} (verdict : B → Verdict) (times : Times) (value : Data) (all : List (Named B)) (e : Named B) (rest : List (Named B)) (error : PasetoClaimError)
    → IsStrictlySortedBy string_cmp (keys_of all)
    → ((fault : Fault) → FailsFirst verdict times value (e ∷ rest) fault → FailsFirst verdict times value all fault)
    → IfFault (FailsAt verdict times value e) error → IfFault (IsFirstFailing (rules_in verdict times all) value) error
fault_among verdict times value all e rest error sorted among is =
    match_some (fault_of error) (λ fault fails. first_failing verdict times value all fault sorted (among fault (inl fails))) is

-- ---- a stored entry

entry-one : (key : List ℕ) (value : Data) → entry key (one_member key value) ≡ value
entry-one key value = rw (tied_itself nat_list_cmp_total key) refl

pub not_null : (value : Data) → is_some (as_null value) ≡ false → value ≡ null → ⊥
not_null value other is = let never : is_some (as_null null) ≡ false = rw is at other in cc never

-- the value is what the entry has
pub entry_matches : {T E : Type 0} (result : Result T E) (key : List ℕ) (expected found : Data) → (found ≡ null → ⊥)
    → OnOk result (IsSame found expected) → OnOk result (Matches key (one_member key expected) found)
entry_matches (Ok x) key expected found some same = (some, rw (entry-one key expected) same)
entry_matches (Err error) key expected found some same = tt

-- or another one
pub entry_mismatch : {T : Type 0} (result : Result T PasetoClaimError) (key : List ℕ) (expected found : Data) → (found ≡ null → ⊥)
    → IfErr result (IfFault (λ fault. (IsSame found expected → ⊥) × (fault ≡ mismatch key found expected)))
    → IfErr result (IfFault (IsMismatch key (one_member key expected) found))
entry_mismatch (Ok x) key expected found some other = tt
entry_mismatch (Err error) key expected found some other =
    match_some (fault_of error) (λ fault is. inr (some, rw (entry-one key expected) is.0, rw (entry-one key expected) is.1)) other

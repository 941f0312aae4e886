-- What a contract sees of the checks that a parser holds.
use Rattle.std.specs.Prelude.{⊤, ℕ, codes, List, [], ◌∷◌, map, Option, option_map, IsSome, String, string_bytes}
use Rattle.std.specs.Global.{Global}
use Rattle.std.specs.Option.{option_map_or}
use Rattle.std.specs.BTreeMap.{get_by_text}
use Rattle.serde_json.specs.Data.{Data, string}
use Rattle.serde_json.specs.View.{view}
use Rattle.rusty_paseto_claims.specs.Claim.{one_member}
use Rattle.rusty_paseto_generic.specs.Validator.{Verdict}
use Rattle.rusty_paseto_generic.specs.Parsers.Rules.{Rule, Rules, edited, no_rule, with_both}
use Rattle.rusty_paseto_generic.specs.Parsers.Times.{expiry, not_before}
use Rattle.rusty_paseto_generic.specs.declared.parsers.checks.Check.{Check}
use Rattle.rusty_paseto_generic.specs.declared.parsers.checks.Checks.{Checks}
use Rattle.rusty_paseto_generic.specs.declared.parsers.checks.Checker.{Checker}
use Rattle.rusty_paseto_generic.specs.declared.parsers.checks.Checker.TheVariants.{Boxed, Expiry, NotBefore}
use Rattle.rusty_paseto_generic.specs.declared.parsers.stored.Stored.{Stored}
use Rattle.rusty_paseto_generic.specs.declared.parsers.stored.Stored.TheVariants.{DefaultDate, Entry, Whole}
use Rattle.rusty_paseto_generic.specs.declared.parsers.times.Times.{Times}

-- the JSON of the claim of a date and time that stands under a key by default
abbrev pub default_date : List ℕ → Data
default_date key = one_member key (string (codes "2019-01-01T00:00:00+00:00"))

-- what is stored under a key, as JSON
abbrev pub stored_json : List ℕ → Stored → Data
stored_json key (Entry value) = one_member key (view value)
stored_json key (Whole value) = view value
stored_json key DefaultDate = default_date key

-- the check under a key, its stored value as JSON
abbrev pub rule_of : {B : Type 0} → List ℕ → Check B → Rule (Checker B)
rule_of key check = record { required = check.required; stored = option_map (stored_json key) check.stored; checker = check.checker }

-- what is checked under each key
abbrev pub rules_of : {B : Type 0} → Checks B → Rules (Checker B)
rules_of checks key = option_map_or (rule_of key) (get_by_text checks.entries key) no_rule

-- what a checker finds, where a validator finds this, when the times are checked
abbrev pub verdict_of : {B : Type 0} → (B → Verdict) → Times → Checker B → Verdict
verdict_of verdict times (Boxed validator) = verdict validator
verdict_of verdict times Expiry = expiry times
verdict_of verdict times NotBefore = not_before times

-- a check with what its checker finds
abbrev pub checked : {B : Type 0} → (B → Verdict) → Times → Rule (Checker B) → Rule Verdict
checked verdict times rule = record { required = rule.required; stored = rule.stored; checker = option_map (verdict_of verdict times) rule.checker }

-- what is checked under each key, with what the checkers find
abbrev pub verdicts_of : {B : Type 0} → (B → Verdict) → Times → Checks B → Rules Verdict
verdicts_of verdict times checks key = checked verdict times (rules_of checks key)

-- what is to check each key, by its bytes
abbrev pub checkers_of : {B : Type 0} → List (String Global × B) → List (List ℕ × Checker B)
checkers_of entries = map (λ named. (string_bytes named.0, Boxed named.1)) entries

-- `exp` and `nbf` are checked by the moment, and get their claims by default
abbrev pub with_times : {B : Type 0} → Rules (Checker B) → Rules (Checker B)
with_times old =
    edited (codes "nbf") (with_both NotBefore (default_date (codes "nbf")))
    (edited (codes "exp") (with_both Expiry (default_date (codes "exp"))) old)

-- ---- for private clauses: which keys have an entry

-- what finds the entries of a map by their keys finds all that another does
abbrev pub HasMore : {A B : Type 0} → (List ℕ → Option A) → (List ℕ → Option B) → Type 0
HasMore found before = (key : List ℕ) → IsSome (before key) → IsSome (found key)

-- what finds the entries of a map by their keys finds one under each of these
abbrev pub HasEach : {A B : Type 0} → (List ℕ → Option A) → List (String Global × B) → Type 0
HasEach found [] = ⊤
HasEach found (named ∷ more) = IsSome (found (string_bytes named.0)) × HasEach found more

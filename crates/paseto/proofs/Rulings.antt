-- What a parser that checks demands finds.
use Rattle.std.proofs.Common.{◌≡◌, ◌⊎◌, ◌&&◌, ℕ, List, [], ◌∷◌, Bool, true, false, if◌then◌else◌, Option, None, Some, MatchOption, is_some, Result, Ok, Err, IfErr, IsErrAnd, OnOk, bytes_eq, codes, ◌≤◌, ◌-◌, arith, drop, get_or, length, take, inl, inr, refl, sym, ap, ap₂, ◌∙◌}
use Rattle.std.proofs.lemmas.List.{take_rest}
use Rattle.std.proofs.Math.Path.{fun_ext}
use Rattle.std.proofs.lemmas.Bool.{false≢true}
use Rattle.std.specs.Borrow.{Bor}
use Rattle.jiff.specs.Types.{Timestamp}
use Rattle.serde_json.specs.Data.{Data}
use Rattle.rusty_paseto_claims.specs.Claim.{Answer, gives, refuses}
use Rattle.rusty_paseto_claims.specs.Error.{Fault, fault_of}
use Rattle.rusty_paseto_claims.specs.Whole.{is_whole}
use Rattle.rusty_paseto_generic.specs.Error.Parser.{IsMemory, IsRefusal}
use Rattle.rusty_paseto_generic.specs.Parsers.Held.{checked, default_date, rules_of, verdict_of, verdicts_of, with_times}
use Rattle.rusty_paseto_generic.specs.Parsers.Rules.{AreSame, IsStored, Rule, Rules, edited, fault_in, no_rule, whole_answer, with_both, with_required, with_stored}
use Rattle.rusty_paseto_generic.specs.Parsers.Times.{not_before, times_at}
use Rattle.rusty_paseto_generic.specs.Validator.{Verdict}
use Rattle.rusty_paseto_generic.specs.declared.error.GenericParserError.{GenericParserError}
use Rattle.rusty_paseto_generic.specs.declared.error.GenericParserError.TheVariants.{ClaimError, Memory}
use Rattle.rusty_paseto_generic.specs.declared.parsers.checks.Checks.{Checks}
use Rattle.rusty_paseto_generic.specs.declared.parsers.checks.Checker.{Checker}
use Rattle.rusty_paseto_generic.specs.declared.parsers.checks.Checker.TheVariants.{Expiry, NotBefore}
use Rattle.paseto_tasks.specs.declared.error.ProgramError.{ProgramError}
use Rattle.paseto.specs.Check.{Demanded, demanded_rules, first_rules}
use Rattle.paseto.specs.Claims.{Named, all_demanded, all_required, are_whole, json_of}
use Rattle.paseto_tasks.specs.Arguments.{texts}
use Rattle.paseto_tasks.specs.Error.{IsOutside}
use Rattle.paseto_tasks.proofs.Fronts.{front_and_rest}

module _ {B : Type 0} (verdict : B → Verdict) (moment : Timestamp) (leeway : ℕ) where
  -- what the checkers of all keys find
  abbrev pub found : Rules (Checker B) → Rules Verdict
  found rules key = checked verdict (times_at moment leeway) (rules key)

  one_stored : (is : Bool) (value : _) (rule : Rule (Checker B))
      → checked verdict (times_at moment leeway) (if is then with_stored value rule else rule) ≡ (if is then with_stored value (checked verdict (times_at moment leeway) rule) else checked verdict (times_at moment leeway) rule)
  one_stored true value rule = refl
  one_stored false value rule = refl

  pub found_demanded : (claims : List Named) (rules : Rules (Checker B)) → found (all_demanded claims rules) ≡ all_demanded claims (found rules)
  found_demanded [] rules = refl
  found_demanded (claim ∷ claims) rules =
      found_demanded claims (edited claim.name (with_stored (json_of claim)) rules)
      ∙ ap (λ (r : Rules Verdict). all_demanded claims r) (fun_ext (λ key. one_stored (bytes_eq claim.name key) (json_of claim) (rules key)))

  one_required : (is : Bool) (rule : Rule (Checker B))
      → checked verdict (times_at moment leeway) (if is then with_required rule else rule)
      ≡ (if is then with_required (checked verdict (times_at moment leeway) rule) else checked verdict (times_at moment leeway) rule)
  one_required true rule = refl
  one_required false rule = refl

  pub found_required : (names : List (List ℕ)) (rules : Rules (Checker B)) → found (all_required names rules) ≡ all_required names (found rules)
  found_required [] rules = refl
  found_required (name ∷ names) rules =
      found_required names (edited name with_required rules)
      ∙ ap (λ (r : Rules Verdict). all_required names r) (fun_ext (λ key. one_required (bytes_eq name key) (rules key)))

  one_checked : (is : Bool) (checker : Checker B) (value : _) (rule : Rule (Checker B))
      → checked verdict (times_at moment leeway) (if is then with_both checker value rule else rule)
      ≡ (if is then with_both (verdict_of verdict (times_at moment leeway) checker) value (checked verdict (times_at moment leeway) rule) else checked verdict (times_at moment leeway) rule)
  one_checked true checker value rule = refl
  one_checked false checker value rule = refl

  found_times : AreSame (found (with_times (λ key. no_rule))) (first_rules moment leeway)
  found_times = λ key.
      one_checked (bytes_eq (codes "nbf") key) NotBefore (default_date (codes "nbf")) (edited (codes "exp") (with_both Expiry (default_date (codes "exp"))) (λ other. no_rule) key)
      ∙ ap (λ rule. if bytes_eq (codes "nbf") key then with_both (not_before (times_at moment leeway)) (default_date (codes "nbf")) rule else rule)
      (one_checked (bytes_eq (codes "exp") key) Expiry (default_date (codes "exp")) no_rule)

-- what a parser with the checks that are demanded finds is what is demanded
pub are_demanded : {B : Type 0} (verdict : B → Verdict) (demands : Demanded) (begun put : Rules (Checker B)) (checks : Checks B)
    (moment : Timestamp) (leeway : ℕ) → moment ≡ demands.at → leeway ≡ demands.leeway → AreSame begun (with_times (λ key. no_rule))
    → put ≡ all_demanded demands.claims begun → rules_of checks ≡ all_required demands.required put
    → verdicts_of verdict (times_at moment leeway) checks ≡ demanded_rules demands
are_demanded {B} verdict demands begun put checks moment leeway at far is_begun stored required =
    ap (λ (r : Rules (Checker B)). found verdict moment leeway r) required
    ∙ found_required verdict moment leeway demands.required put
    ∙ ap (λ (r : Rules Verdict). all_required demands.required r)
    (ap (λ (r : Rules (Checker B)). found verdict moment leeway r) stored
    ∙ found_demanded verdict moment leeway demands.claims begun
    ∙ ap (λ (r : Rules Verdict). all_demanded demands.claims r)
    (ap (λ (r : Rules (Checker B)). found verdict moment leeway r) (fun_ext is_begun) ∙ fun_ext (found_times verdict moment leeway)))
    ∙ ap₂ (λ (t : Timestamp) (l : ℕ). all_required demands.required (all_demanded demands.claims (first_rules t l))) at far

-- names of claims, one after the other
required_more : {T E : Type 0} {J : Type 0} (result : Result T E) (name : List ℕ) (names : List (List ℕ)) (old next new : Rules J)
    → AreSame next (edited name with_required old) → OnOk result (new ≡ all_required names next) → OnOk result (new ≡ all_required (name ∷ names) old)
required_more (Ok value) name names old next new is more = more ∙ ap (λ (r : Rules _). all_required names r) (fun_ext is)
required_more (Err error) name names old next new is more = tt

pub required_front : {T E : Type 0} {J : Type 0} (result : Result T E) (names : List (Bor (List ℕ))) (other : Bor (List ℕ)) (front : List ℕ) (old next new : Rules J)
    → 1 ≤ length names → front ≡ (get_or names 0 other).now → AreSame next (edited front with_required old)
    → OnOk result (new ≡ all_required (texts (take (length names - 1) (drop 1 names))) next) → OnOk result (new ≡ all_required (texts names) old)
required_front result names other front old next new some first is more =
    rw (front_and_rest names other front some first) (required_more result front (texts (take (length names - 1) (drop 1 names))) old next new is more)

-- what only memory refuses
pub memory_alone : {T : Type 0} (answer : Result T GenericParserError) (error : ProgramError) → IfErr answer IsMemory
    → IsErrAnd answer (λ source. IsOutside error ⊎ (¬ IsMemory source)) → IsOutside error
memory_alone (Ok value) error memory refused = absurd refused
memory_alone (Err source) error memory (inl outside) = outside
memory_alone (Err source) error memory (inr none) = absurd (none memory)

-- ---- one claim after the other

-- what an answer gives, or else this
abbrev given : Data → Answer → Data
given other (gives value) = value
given other (refuses fault) = other

abbrev is_given : Answer → Bool
is_given (gives value) = true
is_given (refuses fault) = false

whole_given : (whole : Bool) (json value : Data) (fault : Fault) → (if whole then gives json else refuses fault) ≡ gives value
    → (whole ≡ true) × (value ≡ json)
whole_given true json value fault e = (refl, ap (λ (a : Answer). given json a) (sym e))
whole_given false json value fault e = absurd (false≢true (ap (λ (a : Answer). is_given a) e))

module _ {J : Type 0} (claim : Named) (claims : List Named) (old next new : Rules J) where
  stored_first : IsStored claim.name (gives (json_of claim)) with_stored old next
      → (is_whole (json_of claim) ≡ true) × (next ≡ edited claim.name (with_stored (json_of claim)) old)
  stored_first is =
      let whole = whole_given (is_whole (json_of claim)) (json_of claim) is.value _ is.given in
      (whole.0, fun_ext is.rules ∙ ap (λ (v : Data). edited claim.name (with_stored v) old) whole.1)

  -- a claim is demanded, and then others
  pub rules_more : {T E : Type 0} (result : Result T E) → IsStored claim.name (gives (json_of claim)) with_stored old next
      → OnOk result (new ≡ all_demanded claims next) → OnOk result (new ≡ all_demanded (claim ∷ claims) old)
  rules_more (Ok value) is more = more ∙ ap (λ (r : Rules J). all_demanded claims r) (stored_first is).1
  rules_more (Err error) is more = tt

-- a refusal for a number that is not whole, or from outside
no_fault : (found : Option Fault) → MatchOption found ⊥ (λ fault. None ≡ Some fault) → ⊥
no_fault None is = is
no_fault (Some fault) is = absurd (false≢true (ap (λ (o : Option Fault). is_some o) is))

not_given : (whole : Bool) (json : Data) (fault : Fault) (source : GenericParserError)
    → IsRefusal (fault_in (if whole then gives json else refuses fault)) source → (¬ IsMemory source) → whole ≡ false
not_given false json fault source is none = refl
not_given true json fault (ClaimError error) is none = absurd (no_fault (fault_of error) is)
not_given true json fault (Memory error) is none = absurd (none tt)
not_given true json fault source is none = absurd is

-- a claim that is not taken
pub not_whole : (claim : Named) (claims : List Named) (source : GenericParserError) (error : ProgramError)
    → IsRefusal (fault_in (whole_answer claim.name (gives (json_of claim)))) source → IsOutside error ⊎ (¬ IsMemory source)
    → IsOutside error ⊎ (are_whole (claim ∷ claims) ≡ false)
not_whole claim claims source error is (inl outside) = inl outside
not_whole claim claims source error is (inr none) =
    inr (ap (λ (b : Bool). b && are_whole claims) (not_given (is_whole (json_of claim)) (json_of claim) _ source is none))

pub whole_refused : {T : Type 0} (claim : Named) (claims : List Named) (result : Result T GenericParserError) (error : ProgramError)
    → IfErr result (IsRefusal (fault_in (whole_answer claim.name (gives (json_of claim)))))
    → IsErrAnd result (λ source. IsOutside error ⊎ (¬ IsMemory source)) → IsOutside error ⊎ (are_whole (claim ∷ claims) ≡ false)
whole_refused claim claims (Ok value) error is refused = absurd refused
whole_refused claim claims (Err source) error is refused = not_whole claim claims source error is refused

-- a list is its first element and the rest
pub first_and_rest : {A : Type 0} (xs : List A) (x : A) → 1 ≤ length xs → x ≡ get_or xs 0 x → xs ≡ x ∷ take (length xs - 1) (drop 1 xs)
first_and_rest [] x some is = absurd (omega (arith, some))
first_and_rest (y ∷ xs) x some is = ap (λ (z : _). z ∷ xs) (sym is) ∙ ap (λ (rest : List _). x ∷ rest) (sym (take_rest (y ∷ xs) 1))

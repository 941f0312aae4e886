-- When a value passes what is checked under a key, and which fault it has where it does not.
use Rattle.std.specs.Prelude.{◌≡◌, ◌≢◌, ◌⊎◌, ⊤, ℕ, true, List, Some, None, MatchOption, unwrap_or}
use Rattle.std.specs.Ordering.{nat_cmp}
use Rattle.std.specs.declared.cmp.Ordering.TheVariants.{Less}
use Rattle.std.specs.Cmp.Lexicographic.{slice_cmp}
use Rattle.serde_json.specs.Data.{Data, null, string}
use Rattle.serde_json.specs.Find.{get}
use Rattle.rusty_paseto_claims.specs.Error.{Fault, missing, unexpected, invalid}
use Rattle.rusty_paseto_claims.specs.Same.{IsSame}
use Rattle.rusty_paseto_generic.specs.Validator.{Verdict}
use Rattle.rusty_paseto_generic.specs.Parsers.Rules.{Rule, Rules}

-- the value under a key: null where there is none, or the whole is no object
abbrev pub entry : List ℕ → Data → Data
entry key value = unwrap_or (get key value) null

-- the fault of a value that is not the expected one
abbrev pub mismatch : List ℕ → Data → Data → Fault
mismatch key (string found) (string expected) = invalid key found expected
mismatch key found expected = unexpected key

-- the value is there, and is the same as the stored one's under the key
abbrev pub Matches : List ℕ → Data → Data → Type 0
Matches key stored found = (found ≢ null) × IsSame found (entry key stored)

-- the value is missing, or another one
abbrev pub IsMismatch : List ℕ → Data → Data → Fault → Type 0
IsMismatch key stored found fault =
    ((found ≡ null) × (fault ≡ missing key))
    ⊎ ((found ≢ null) × (¬ IsSame found (entry key stored)) × (fault ≡ mismatch key found (entry key stored)))

-- the value is what is expected: a checker decides alone, where there is one, and else the stored value
abbrev pub Meets : Rule Verdict → List ℕ → Data → Type 0
Meets rule key found =
    MatchOption rule.checker (MatchOption rule.stored ⊤ (λ stored. Matches key stored found)) (λ verdict. verdict key found ≡ None)

-- it is not, and this is the fault
abbrev pub Misses : Rule Verdict → List ℕ → Data → Fault → Type 0
Misses rule key found fault =
    MatchOption rule.checker (MatchOption rule.stored ⊥ (λ stored. IsMismatch key stored found fault)) (λ verdict. verdict key found ≡ Some fault)

-- there is a value, where there has to be one
abbrev pub IsThere : Rule Verdict → Data → Type 0
IsThere rule found = rule.required ≡ true → found ≢ null

-- there is none, and there has to be one
abbrev pub IsAbsent : Rule Verdict → Data → Type 0
IsAbsent rule found = (rule.required ≡ true) × (found ≡ null)

-- the value passes what is checked: it is there, where it has to be, and what is expected
abbrev pub Passes : Rule Verdict → List ℕ → Data → Type 0
Passes rule key found = IsThere rule found × Meets rule key found

-- the value has this fault: that it is missing, or else that of what is expected
abbrev pub Fails : Rule Verdict → List ℕ → Data → Fault → Type 0
Fails rule key found fault = (IsAbsent rule found × (fault ≡ missing key)) ⊎ (IsThere rule found × Misses rule key found fault)

-- the value passes what is checked under every key
abbrev pub PassesAll : Rules Verdict → Data → Type 0
PassesAll rules value = (key : List ℕ) → Passes (rules key) key (entry key value)

-- a value has the fault under a key, and passes what is checked under each lesser key, in byte order
pub record IsFirstFailing (rules : Rules Verdict) (value : Data) (fault : Fault) : Type 0 where
  pub key : List ℕ
  pub fails : Fails (rules key) key (entry key value) fault
  pub before : (other : List ℕ) → slice_cmp nat_cmp other key ≡ Less → Passes (rules other) other (entry other value)

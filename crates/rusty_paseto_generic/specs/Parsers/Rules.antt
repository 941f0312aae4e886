-- What a parser checks under each key, and the edits of it.
use Rattle.std.specs.Prelude.{◌≡◌, ℕ, Bool, true, false, List, [], ◌∷◌, if◌then◌else◌, Option, Some, None, option_map}
use Rattle.std.specs.Str.{bytes_eq}
use Rattle.serde_json.specs.Data.{Data, Members, no_members, member}
use Rattle.rusty_paseto_claims.specs.Claim.{Answer, gives, refuses}
use Rattle.rusty_paseto_claims.specs.Error.{Fault, unexpected}
use Rattle.rusty_paseto_claims.specs.Whole.{first_odd, is_whole}

-- what is checked under a key: whether a value has to be there, a stored value or none, and a checker or none
pub record Rule (J : Type 0) : Type 0 where
  pub required : Bool
  pub stored : Option Data
  pub checker : Option J

-- nothing is checked
abbrev pub no_rule : {J : Type 0} → Rule J
no_rule = record { required = false; stored = None; checker = None }

-- what is checked under every key
abbrev pub Rules : Type 0 → Type 0
Rules J = List ℕ → Rule J

-- the same is checked under every key
abbrev pub AreSame : {J : Type 0} → Rules J → Rules J → Type 0
AreSame first second = (key : List ℕ) → first key ≡ second key

-- ---- the edits of them

abbrev pub with_required : {J : Type 0} → Rule J → Rule J
with_required rule = record rule { required = true }

abbrev pub with_stored : {J : Type 0} → Data → Rule J → Rule J
with_stored value rule = record rule { stored = Some value }

abbrev pub with_checker : {J : Type 0} → J → Rule J → Rule J
with_checker checker rule = record rule { checker = Some checker }

abbrev pub with_both : {J : Type 0} → J → Data → Rule J → Rule J
with_both checker value rule = with_checker checker (with_stored value rule)

-- what is checked under one key is changed
abbrev pub edited : {J : Type 0} → List ℕ → (Rule J → Rule J) → Rules J → Rules J
edited key change old other = if bytes_eq key other then change (old other) else old other

-- each value is stored under its key
abbrev pub all_stored : {J : Type 0} → Members → Rules J → Rules J
all_stored no_members old = old
all_stored (member key value more) old = all_stored more (edited key (with_stored value) old)

-- each checker is set under its key
abbrev pub all_with_checkers : {J : Type 0} → List (List ℕ × J) → Rules J → Rules J
all_with_checkers [] old = old
all_with_checkers (named ∷ more) old = all_with_checkers more (edited named.0 (with_checker named.1) old)

-- what is taken of a claim's answer: its value, where that has whole numbers alone, and else a fault
abbrev pub whole_answer : List ℕ → Answer → Answer
whole_answer key (gives value) = if is_whole value then gives value else refuses (unexpected key)
whole_answer key (refuses fault) = refuses fault

-- the fault of an answer that is no value
abbrev pub fault_in : Answer → Option Fault
fault_in (gives value) = None
fault_in (refuses fault) = Some fault

-- the fault of the first key, in byte order, whose value is not whole
abbrev pub odd_fault : Members → Option Fault
odd_fault more = option_map unexpected (first_odd more)

-- the answer is a value, and with it what is checked under the key is changed
pub record IsStored {J : Type 0} (key : List ℕ) (answer : Answer) (change : Data → Rule J → Rule J) (old new : Rules J) : Type 0 where
  pub value : Data
  pub given : whole_answer key answer ≡ gives value
  pub rules : AreSame new (edited key (change value) old)

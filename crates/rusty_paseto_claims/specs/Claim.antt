-- What a claim is: a key, and an answer when it is asked for JSON.
use Rattle.std.specs.Prelude.{◌≡◌, ℕ, List, MatchOption, ⊤}
use Rattle.serde_json.specs.Data.{Data, object, member, no_members}
use Rattle.rusty_paseto_claims.specs.Error.{Fault, fault_of}
use Rattle.rusty_paseto_claims.specs.declared.error.PasetoClaimError.{PasetoClaimError}

-- the JSON of a value, or the fault by which it is refused
pub data Answer : Type 0 where
  gives : Data → Answer
  refuses : Fault → Answer

-- the error is what is answered, or memory was refused
abbrev pub IsRefusal : Answer → PasetoClaimError → Type 0
IsRefusal answer error = MatchOption (fault_of error) ⊤ (λ fault. answer ≡ refuses fault)

-- the object with one entry
abbrev pub one_member : List ℕ → Data → Data
one_member key value = object (member key value no_members)

-- the same answer, with its value under the key
abbrev pub under : List ℕ → Answer → Answer
under key (gives value) = gives (one_member key value)
under key (refuses fault) = refuses fault

-- The claims that a builder holds, and the edits of them. They are the members of a JSON object: each key
-- once, in byte order.
use Rattle.std.specs.Prelude.{◌≡◌, ◌≤◌, ◌==◌, ⊤, true, ℕ, List, [], ◌∷◌, if◌then◌else◌, Option, Some, None, option_map, option_and_then, unwrap_or, MatchOption}
use Rattle.std.specs.Ordering.{nat_cmp, match_ordering}
use Rattle.std.specs.Cmp.Lexicographic.{slice_cmp}
use Rattle.serde_json.specs.Data.{Data, object, Members, no_members, member, members_depth, put}
use Rattle.serde_json.specs.Events.{members_len}
use Rattle.serde_json.specs.Find.{as_object, get_member}
use Rattle.serde_json.specs.Read.{read}
use Rattle.serde_json.specs.Written.{compact_text}
use Rattle.rusty_paseto_claims.specs.Claim.{Answer, gives, refuses}
use Rattle.rusty_paseto_claims.specs.Error.{Fault, fault_of, unexpected}
use Rattle.rusty_paseto_claims.specs.Whole.{first_odd, is_whole}
use Rattle.rusty_paseto_generic.specs.declared.error.GenericBuilderError.{GenericBuilderError}
use Rattle.rusty_paseto_generic.specs.declared.error.GenericBuilderError.TheVariants.{ClaimError, Memory}

-- what an edit makes of the claims: other claims, or nothing, for a fault
pub data Outcome : Type 0 where
  becomes : Members → Outcome
  refused : Fault → Outcome

-- the error names the fault for which the edit makes nothing, or memory was refused
abbrev pub IsRefusal : Outcome → GenericBuilderError → Type 0
IsRefusal outcome (Memory _) = ⊤
IsRefusal outcome (ClaimError error) = MatchOption (fault_of error) ⊥ (λ fault. outcome ≡ refused fault)
IsRefusal outcome _ = ⊥

-- the value under the key, where the object has no other key
abbrev pub only_member : List ℕ → Members → Option Data
only_member key members = if members_len members == 1 then get_member key members else None

-- what is stored of a claim's JSON: the value of an object's only entry, where its key is the claim's, and
-- else the JSON as it is. It is done once: the value is taken as it is
abbrev pub unwrapped : List ℕ → Data → Data
unwrapped key value = unwrap_or (option_and_then (only_member key) (as_object value)) value

-- a value takes its key, where it has whole numbers alone
abbrev pub stored : List ℕ → Data → Members → Outcome
stored key value old = if is_whole value then becomes (put key value old) else refused (unexpected key)

-- what a claim answers takes its key
abbrev pub answered : List ℕ → Answer → Members → Outcome
answered key (gives value) old = stored key (unwrapped key value) old
answered key (refuses fault) old = refused fault

-- a claim of a key and an answer is set. The empty key changes nothing, whatever the answer
abbrev pub claim_set : List ℕ → Answer → Members → Outcome
claim_set [] answer old = becomes old
claim_set (first ∷ rest) answer old = answered (first ∷ rest) answer old

-- each value takes its key, as it is
abbrev pub put_all : Members → Members → Members
put_all no_members old = old
put_all (member key value more) old = put_all more (put key value old)

-- all of them are put, or none, for the first key whose value is not whole
abbrev pub extended : Members → Members → Outcome
extended more old = unwrap_or (option_map (λ key. refused (unexpected key)) (first_odd more)) (becomes (put_all more old))

-- a key is taken out
abbrev pub without : List ℕ → Members → Members
without key no_members = no_members
without key (member found value rest) =
    match_ordering (slice_cmp nat_cmp key found) (member found value (without key rest)) rest (member found value (without key rest))

-- the text of the claims: the compact JSON of the object
abbrev pub payload : Members → List ℕ
payload claims = compact_text (object claims)

-- the claims have whole numbers alone, and their text is read as the object of them, where their values are nested
-- at most 126 deep
pub record IsReadBack (claims : Members) : Type 0 where
  pub whole : is_whole (object claims) ≡ true
  pub reads : members_depth claims ≤ 126 → read (payload claims) ≡ Some (object claims)

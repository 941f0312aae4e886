-- Claims that are set one after another.
use Rattle.std.proofs.Common.{◌≡◌, ◌∙◌, ◌⊎◌, inl, inr, ℕ, List, [], ◌∷◌, Bool, true, false, Ordering, String, Global, nat_cmp, string_bytes, Option, Some, None, MatchOption, MatchResult, option_map, ok_or, if◌then◌else◌, refl, sym, ap}
use Rattle.serde_json.specs.Data.{Data, null, boolean, number, string, array, object, Members, no_members, member, put}
use Rattle.serde_json.specs.Find.{as_object, get_member}
use Rattle.serde_json.specs.Read.{read}
use Rattle.serde_json.specs.View.{members_view, view}
use Rattle.serde_json.proofs.Views.{Entry, view-lookup}
use Rattle.rusty_paseto_claims.specs.Claim.{gives, one_member}
use Rattle.std.specs.BTreeMap.{is_at}
use Rattle.std.specs.Cmp.Lexicographic.{slice_cmp}
use Rattle.std.specs.Map.{lookup, remove_entry}
use Rattle.std.specs.Option.{option_map_or, unwrap_or}
use Rattle.std.proofs.lemmas.Cmp.{nat_list_cmp_total, tied_itself}
use Rattle.rusty_paseto_claims.specs.Error.{Fault, fault_of, unexpected}
use Rattle.rusty_paseto_claims.specs.Whole.{first_odd, is_whole}
use Rattle.rusty_paseto_generic.specs.Builders.Claims.{IsRefusal, Outcome, becomes, refused, claim_set, extended, put_all, unwrapped, without}
use Rattle.rusty_paseto_generic.specs.declared.error.GenericBuilderError.{GenericBuilderError}
use Rattle.rusty_paseto_generic.specs.declared.error.GenericBuilderError.TheVariants as Builder
use Rattle.rusty_paseto_generic.proofs.MapLemmas.{members_view-remove_entry}
use Rattle.paseto_calls.specs.Refusal.{builder_refusal, fault_refusal}
use Rattle.paseto_calls.specs.declared.refusal.Refusal.TheVariants.{Memory, NotObject}
use Rattle.paseto_calls.specs.Claims.{IsClaimFault, IsNoObject, all_set, then_set}

-- a value that is no object is read of no object's text
pub no_object_read : (text : List ℕ) (value : Data) → read text ≡ Some value → as_object value ≡ None → IsNoObject text
no_object_read text value is none members other =
    let same : value ≡ object members = cc in
    let found : Some members ≡ None = ap as_object (sym same) ∙ none in
    cc

as_object-Some : (value : Data) (members : Members) → as_object value ≡ Some members → value ≡ object members
as_object-Some null found is = cc is
as_object-Some (boolean b) found is = cc is
as_object-Some (number n) found is = cc is
as_object-Some (string text) found is = cc is
as_object-Some (array items) found is = cc is
as_object-Some (object own) found is = let same : own ≡ found = cc in ap object same

-- what is found of a value that was read is the object's members, or there is no object
pub object_found : {M : Type 0} (members_in : M → Members) (text : List ℕ) (value : Data) (found : Option M) → read text ≡ Some value
    → option_map members_in found ≡ as_object value
    → MatchResult (ok_or found NotObject) (λ members. read text ≡ Some (object (members_in members)))
    (λ refusal. (refusal ≡ Memory) ⊎ ((refusal ≡ NotObject) × IsNoObject text))
object_found members_in text value (Some members) is same = is ∙ ap Some (as_object-Some value (members_in members) (sym same))
object_found members_in text value None is same = inr (refl, no_object_read text value is (sym same))

-- what comes of a value's being whole, and then of the rest
abbrev outcome : Bool → List ℕ → Data → Members → (Members → Outcome) → Outcome
outcome whole key value old more = then_set (if whole then becomes (put key value old) else refused (unexpected key)) more

outcome_fault : (whole : Bool) (key : List ℕ) (value : Data) (a b : Members) (more : Members → Outcome) (fault : Fault)
    → ((new other : Members) → more new ≡ refused fault → more other ≡ refused fault)
    → outcome whole key value a more ≡ refused fault → outcome whole key value b more ≡ refused fault
outcome_fault true key value a b more fault same is = same _ _ is
outcome_fault false key value a b more fault same is = is

-- a refusal does not depend on what is held before
pub all_set-fault : (members a b : Members) (fault : Fault) → all_set members a ≡ refused fault → all_set members b ≡ refused fault
all_set-fault no_members a b fault is = absurd (let e : becomes a ≡ refused fault = is in cc)
all_set-fault (member [] value more) a b fault is = all_set-fault more a b fault is
all_set-fault (member (first ∷ rest) value more) a b fault is =
    outcome_fault (is_whole (unwrapped (first ∷ rest) (one_member (first ∷ rest) value))) (first ∷ rest)
    (unwrapped (first ∷ rest) (one_member (first ∷ rest) value)) a b (λ new. all_set more new) fault
    (λ new other. all_set-fault more new other fault) is

-- the refusal for a fault, or that memory was refused
refusal_of_fault : (found : Option Fault) (outcome : Outcome) (claims : Members)
    → MatchOption found ⊥ (λ fault. outcome ≡ refused fault)
    → ((fault : Fault) → outcome ≡ refused fault → all_set claims no_members ≡ refused fault)
    → IsClaimFault claims (option_map_or fault_refusal found Memory)
refusal_of_fault None outcome claims is all = absurd is
refusal_of_fault (Some fault) outcome claims is all = record { fault = fault; is_fault = all fault is; is_refusal = refl }

-- a claim that a builder refuses is refused of all of them
pub claim_refuses : (error : GenericBuilderError) (outcome : Outcome) (claims : Members) → IsRefusal outcome error
    → ((fault : Fault) → outcome ≡ refused fault → all_set claims no_members ≡ refused fault)
    → (builder_refusal error ≡ Memory) ⊎ IsClaimFault claims (builder_refusal error)
claim_refuses (Builder.Memory source) outcome claims is all = inl refl
claim_refuses (Builder.ClaimError source) outcome claims is all = inr (refusal_of_fault (fault_of source) outcome claims is all)
claim_refuses error outcome claims is all = absurd is

-- ---- all of them at once

then_set-same : (made : Outcome) (first second : Members → Outcome) → ((new : Members) → first new ≡ second new)
    → then_set made first ≡ then_set made second
then_set-same (becomes new) first second same = same new
then_set-same (refused fault) first second same = refl

-- what is stored of a member is its value
unwrapped-member : (key : List ℕ) (value : Data) → unwrapped key (one_member key value) ≡ value
unwrapped-member key value = rw (tied_itself nat_list_cmp_total key) refl

-- the empty key sets nothing, and may be taken out
all_set-without : (members old : Members) → all_set (without [] members) old ≡ all_set members old
all_set-without no_members old = refl
all_set-without (member [] value more) old = refl
all_set-without (member (first ∷ rest) value more) old =
    then_set-same (claim_set (first ∷ rest) (gives (one_member (first ∷ rest) value)) old) _ _ (λ new. all_set-without more new)

-- a value that is whole, or not, and then the rest
outcome-stored : (whole : Bool) (key : List ℕ) (value : Data) (more old : Members) → ((new : Members) → all_set more new ≡ extended more new)
    → outcome whole key value old (λ new. all_set more new)
    ≡ unwrap_or (option_map (λ odd. refused (unexpected odd)) (if whole then first_odd more else Some key)) (becomes (put_all more (put key value old)))
outcome-stored true key value more old same = same (put key value old)
outcome-stored false key value more old same = refl

-- with no empty key, each is stored as it is
all_set-stored : (members old : Members) → get_member [] members ≡ None → all_set members old ≡ extended members old
all_set-stored no_members old none = refl
all_set-stored (member [] value more) old none = absurd (let e : Some value ≡ None = none in cc)
all_set-stored (member (first ∷ rest) value more) old none =
    let key : List ℕ = first ∷ rest in
    rw (unwrapped-member key value)
    (outcome-stored (is_whole value) key value more old (λ new. all_set-stored more new none))

abbrev is_empty : String Global → Ordering
is_empty key = slice_cmp nat_cmp [] (string_bytes key)

-- members are set as claims where what is left of them without the empty key is stored
pub all_set-left : (all left : List Entry) (old : Members) → left ≡ remove_entry (is_at is_empty) all → lookup (is_at is_empty) left ≡ None
    → all_set (members_view all) old ≡ extended (members_view left) old
all_set-left all left old is none =
    let rest : members_view left ≡ without [] (members_view all) = ap members_view is ∙ members_view-remove_entry [] all in
    let absent : get_member [] (members_view left) ≡ None = sym (view-lookup [] left) ∙ ap (option_map view) none in
    sym (all_set-without (members_view all) old) ∙ ap (λ members. all_set members old) (sym rest) ∙ all_set-stored (members_view left) old absent

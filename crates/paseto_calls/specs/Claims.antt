-- Claims that C gives as the members of a JSON object.
use Rattle.std.specs.Prelude.{◌≡◌, ◌≢◌, ℕ, List, Some}
use Rattle.serde_json.specs.Data.{Members, no_members, member, object}
use Rattle.serde_json.specs.Read.{read}
use Rattle.rusty_paseto_claims.specs.Claim.{gives, one_member}
use Rattle.rusty_paseto_claims.specs.Error.{Fault}
use Rattle.rusty_paseto_generic.specs.Builders.Claims.{Outcome, becomes, refused, claim_set}
use Rattle.paseto_calls.specs.Refusal.{fault_refusal}
use Rattle.paseto_calls.specs.declared.refusal.Refusal.{Refusal}

-- the text is no JSON object
abbrev pub IsNoObject : List ℕ → Type 0
IsNoObject text = (members : Members) → read text ≢ Some (object members)

-- an edit of what another one made
abbrev pub then_set : Outcome → (Members → Outcome) → Outcome
then_set (becomes claims) edit = edit claims
then_set (refused fault) edit = refused fault

-- each member is set as a claim, in its order
abbrev pub all_set : Members → Members → Outcome
all_set no_members old = becomes old
all_set (member key value more) old =
    then_set (claim_set key (gives (one_member key value)) old) (λ new. all_set more new)

-- one of the members is no claim, and this is the refusal for its fault
pub record IsClaimFault (members : Members) (refusal : Refusal) : Type 0 where
  pub fault : Fault
  pub is_fault : all_set members no_members ≡ refused fault
  pub is_refusal : refusal ≡ fault_refusal fault

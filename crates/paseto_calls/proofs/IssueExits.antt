-- What C is refused with where a token is issued, and the token.
use Rattle.std.proofs.Common.{◌≡◌, ◌∙◌, ◌⊎◌, inl, inr, ℕ, ℤ, List, Option, Some, None, MatchOption, codes, refl, sym}
use Rattle.serde_json.specs.Data.{Members, no_members, member, object, string}
use Rattle.serde_json.specs.Read.{read}
use Rattle.rusty_paseto_claims.specs.Error.{Fault, fault_of}
use Rattle.rusty_paseto_generic.specs.Builders.Claims.{IsRefusal, Outcome, becomes, extended, payload, refused as refused_for}
use Rattle.rusty_paseto_generic.specs.declared.error.GenericBuilderError.{GenericBuilderError}
use Rattle.rusty_paseto_generic.specs.declared.error.GenericBuilderError.TheVariants as Builder
use Rattle.paseto_calls.specs.Arguments.{has_bytes}
use Rattle.paseto_calls.specs.Claims.{IsClaimFault, IsNoObject}
use Rattle.paseto_calls.specs.Issue.{AreClaims, AreMomentClaims, AreMoments, IsMembersFault, issuing, no_claim, no_member, no_moment, no_moments, no_object}
use Rattle.paseto_calls.specs.Refusal.{builder_refusal}
use Rattle.paseto_calls.specs.Request.{AreTaken, Makes, Refuses, no_memory, refused, status_line}
use Rattle.paseto_calls.specs.Tokens.{IsDeclined, writes}
use Rattle.paseto_calls.specs.declared.held_key.HeldKey.{HeldKey}
use Rattle.paseto_calls.specs.declared.refusal.Refusal.{Refusal}
use Rattle.paseto_calls.specs.declared.refusal.Refusal.TheVariants.{InvalidMoment, Memory, NotObject}

module _ (key : HeldKey) (drawn text : List ℕ) (now : ℤ) (footer assertion : List ℕ)
    (taken : AreTaken (issuing key drawn text now footer assertion)) where
  pub object_refuses : (found : Refusal) → (found ≡ Memory) ⊎ ((found ≡ NotObject) × IsNoObject text)
      → Refuses (issuing key drawn text now footer assertion) found (status_line found)
  object_refuses found (inl memory) = rw memory no_memory
  object_refuses found (inr none) = rw none.0 (refused NotObject taken (inl (no_object none.1)))

  module _ (members : Members) (is : read text ≡ Some (object members)) where
    pub members_refuse : (found : Refusal) → (found ≡ Memory) ⊎ IsMembersFault members now found
        → Refuses (issuing key drawn text now footer assertion) found (status_line found)
    members_refuse found (inl memory) = rw memory no_memory
    members_refuse InvalidMoment (inr (no_moments none)) = refused InvalidMoment taken (inl (no_moment members is none))
    members_refuse found (inr (no_member refusal moments fault)) = refused refusal taken (inl (no_claim members refusal is moments fault))

    module _ (claims : Members) (are : AreClaims members now claims) where
      pub token_made : (token : List ℕ) → (writes key drawn footer assertion).Writes (has_bytes footer) (payload claims) token
          → Makes (issuing key drawn text now footer assertion) token
      token_made token made = record {
        taken = taken;
        makes = record { members = members; is_object = is; claims = claims; are_claims = are; makes = made };
      }

      pub token_refused : (found : Refusal)
          → (found ≡ Memory) ⊎ IsDeclined (writes key drawn footer assertion) (has_bytes footer) (payload claims) found
          → Refuses (issuing key drawn text now footer assertion) found (status_line found)
      token_refused found (inl memory) = rw memory no_memory
      token_refused found (inr declined) = refused found taken
          (inr (record { members = members; is_object = is; claims = claims; are_claims = are; makes = declined }))

-- ---- the times of a token

-- what sets claims refuses none of them
refused_not : (found : Option Fault) (outcome : Outcome) (claims : Members) → outcome ≡ becomes claims
    → MatchOption found ⊥ (λ fault. outcome ≡ refused_for fault) → ⊥
refused_not None outcome claims same is = is
refused_not (Some fault) outcome claims same is = let e : becomes claims ≡ refused_for fault = sym same ∙ is in cc

-- then memory alone is refused
pub put_refuses : (error : GenericBuilderError) (outcome : Outcome) (claims : Members) → outcome ≡ becomes claims → IsRefusal outcome error
    → builder_refusal error ≡ Memory
put_refuses (Builder.Memory source) outcome claims same is = refl
put_refuses (Builder.ClaimError source) outcome claims same is = absurd (refused_not (fault_of source) outcome claims same is)
put_refuses error outcome claims same is = absurd is

-- three dates and times become the claims
abbrev pub three : List ℕ → List ℕ → List ℕ → Members
three end issue begin = member (codes "exp") (string end) (member (codes "iat") (string issue) (member (codes "nbf") (string begin) no_members))

pub times_extend : (times : Members) (last issued first : ℤ) → AreMomentClaims last issued first times → extended times no_members ≡ becomes times
times_extend times last issued first are = rw are.is refl

pub times_put : (times claims : Members) (last issued first : ℤ) → AreMomentClaims last issued first times → extended times no_members ≡ becomes claims
    → times ≡ claims
times_put times claims last issued first are is = let e : becomes times ≡ becomes claims = sym (times_extend times last issued first are) ∙ is in cc

-- why there are no times is why there are no claims
pub times_refuse : (members : Members) (now : ℤ) (found : Refusal) → (found ≡ Memory) ⊎ ((found ≡ InvalidMoment) × ¬ AreMoments now)
    → (found ≡ Memory) ⊎ IsMembersFault members now found
times_refuse claims now found (inl memory) = inl memory
times_refuse claims now found (inr none) = inr (rw none.0 (no_moments none.1))

pub member_refuses : (members : Members) (now : ℤ) (found : Refusal) → AreMoments now → (found ≡ Memory) ⊎ IsClaimFault members found
    → (found ≡ Memory) ⊎ IsMembersFault members now found
member_refuses claims now found moments (inl memory) = inl memory
member_refuses claims now found moments (inr fault) = inr (no_member found moments fault)

-- Tokens that C issues of claims.
use Rattle.std.specs.Prelude.{◌≡◌, ◌⊎◌, ℕ, ℤ, pos, ◌+ℤ◌, ◌-ℤ◌, List, [], ◌∷◌, Some, codes}
use Rattle.jiff.specs.Words.{IsTimestampNanos}
use Rattle.serde_json.specs.Data.{Members, no_members, member, object, string}
use Rattle.serde_json.specs.Read.{read}
use Rattle.rusty_paseto_claims.specs.Moment.{IsMomentText}
use Rattle.rusty_paseto_generic.specs.Builders.Claims.{becomes, payload}
use Rattle.paseto_calls.specs.Arguments.{has_bytes}
use Rattle.paseto_calls.specs.Claims.{IsClaimFault, IsNoObject, all_set}
use Rattle.paseto_calls.specs.Request.{Request, tells_nothing}
use Rattle.paseto_calls.specs.Tokens.{IsDeclined, writes, writing_fault}
use Rattle.paseto_calls.specs.declared.held_key.HeldKey.{HeldKey}
use Rattle.paseto_calls.specs.declared.refusal.Refusal.{Refusal}
use Rattle.paseto_calls.specs.declared.refusal.Refusal.TheVariants.{NotObject, InvalidMoment}
use Rattle.paseto_calls.specs.declared.wanted.Wanted.TheVariants.{Writers}

-- of a moment in nanoseconds since 1970: an hour later, and a second before it
abbrev pub hour_after : ℤ → ℤ
hour_after now = now +ℤ pos 3_600_000_000_000

abbrev pub second_before : ℤ → ℤ
second_before now = now -ℤ pos 1_000_000_000

-- the three are moments
pub record AreMoments (now : ℤ) : Type 0 where
  pub end : IsTimestampNanos (hour_after now)
  pub issue : IsTimestampNanos now
  pub begin : IsTimestampNanos (second_before now)

-- the claims exp, iat and nbf of three moments
pub record AreMomentClaims (last issued first : ℤ) (claims : Members) : Type 0 where
  pub end : List ℕ
  pub issue : List ℕ
  pub begin : List ℕ
  pub is_end : IsMomentText last end
  pub is_issue : IsMomentText issued issue
  pub is_begin : IsMomentText first begin
  pub is : claims ≡ member (codes "exp") (string end) (member (codes "iat") (string issue) (member (codes "nbf") (string begin) no_members))

-- the times of a token that is issued at a moment: it expires an hour later, and is usable from a second before it, so that
-- whoever gets it at once may use it at once, by a clock of whole seconds too
abbrev pub AreTimes : ℤ → Members → Type 0
AreTimes now times = AreMomentClaims (hour_after now) now (second_before now) times

-- the claims are the times, in which each member of an object is set
pub record AreClaims (members : Members) (now : ℤ) (claims : Members) : Type 0 where
  pub times : Members
  pub are_times : AreTimes now times
  pub are_set : all_set members times ≡ becomes claims

-- the members of the object that a text is, set at a moment, make claims whose JSON makes this
pub record IsIssued (text : List ℕ) (now : ℤ) (Makes : List ℕ → Type 0) : Type 0 where
  pub members : Members
  pub is_object : read text ≡ Some (object members)
  pub claims : Members
  pub are_claims : AreClaims members now claims
  pub makes : Makes (payload claims)

-- why there are no claims: the text is no object, or else these are no moments, which no number of 64 bits is the cause of, or
-- else a member is no claim
pub data IsIssuingFault (text : List ℕ) (now : ℤ) : Refusal → Type 0 where
  no_object : IsNoObject text → IsIssuingFault text now NotObject
  no_moment : (members : Members) → read text ≡ Some (object members) → ¬ AreMoments now → IsIssuingFault text now InvalidMoment
  no_claim : (members : Members) (refusal : Refusal) → read text ≡ Some (object members) → AreMoments now → IsClaimFault members refusal
      → IsIssuingFault text now refusal

-- a token of claims is issued
abbrev pub issuing : HeldKey → List ℕ → List ℕ → ℤ → List ℕ → List ℕ → Request (List ℕ)
issuing key drawn claims now footer assertion = let writes_it = writes key drawn footer assertion in record {
  fault = writing_fault Writers key drawn assertion;
  texts = claims ∷ footer ∷ assertion ∷ [];
  Makes = λ token. IsIssued claims now (λ text. writes_it.Writes (has_bytes footer) text token);
  Refuses = λ refusal. IsIssuingFault claims now refusal ⊎ IsIssued claims now (λ text. IsDeclined writes_it (has_bytes footer) text refusal);
  Tells = tells_nothing;
}

-- ---- for private clauses

-- why there are no claims of these members
pub data IsMembersFault (members : Members) (now : ℤ) : Refusal → Type 0 where
  no_moments : ¬ AreMoments now → IsMembersFault members now InvalidMoment
  no_member : (refusal : Refusal) → AreMoments now → IsClaimFault members refusal → IsMembersFault members now refusal

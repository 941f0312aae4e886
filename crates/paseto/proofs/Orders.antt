-- The claims that a builder is given.
use Rattle.std.proofs.Common.{◌≡◌, ◌⊎◌, ℕ, List, [], ◌∷◌, Bool, true, false, if◌then◌else◌, Option, None, Some, MatchOption, Result, Ok, Err, IfErr, IfOk, IsErrAnd, OnOk, codes, inl, inr, refl, ◌∙◌}
use Rattle.jiff.specs.Types.{Timestamp}
use Rattle.serde_json.specs.Data.{Data, Members, put, string}
use Rattle.rusty_paseto_claims.specs.Claim.{gives, one_member}
use Rattle.rusty_paseto_claims.specs.DateClaim.{IsDate}
use Rattle.rusty_paseto_claims.specs.Error.{Fault, fault_of, unexpected}
use Rattle.rusty_paseto_claims.specs.Moment.{IsMomentText}
use Rattle.rusty_paseto_claims.specs.Whole.{is_whole}
use Rattle.rusty_paseto_generic.specs.Builders.Claims.{IsRefusal, Outcome, becomes, refused, claim_set, unwrapped}
use Rattle.rusty_paseto_generic.specs.Error.{IsMemory}
use Rattle.rusty_paseto_generic.specs.declared.error.GenericBuilderError.{GenericBuilderError}
use Rattle.rusty_paseto_generic.specs.declared.error.GenericBuilderError.TheVariants.{ClaimError, Memory}
use Rattle.rusty_paseto.specs.PasetoBuilder.{Counting, IsSame, counted, nothing_counted}
use Rattle.rusty_paseto_claims.proofs.MomentLemmas.{same_text}
use Rattle.paseto_tasks.specs.declared.error.ProgramError.{ProgramError}
use Rattle.paseto.specs.Claims.{AreNeverSet, Named, all_counted, json_of}
use Rattle.paseto_tasks.specs.Error.{IsOutside}
use Rattle.paseto.specs.Issue.{AreNever, Ordered, keys_set}
use Rattle.paseto.specs.Times.{IsNeverSet, IsTimeSet, time_counted}

-- ---- times

-- the claim of a moment's text is set where the builder answers
pub time_set : {T E F : Type 0} (result : Result T E) (answer : Result T F) (key : List ℕ) (moment : Timestamp) (text claim : List ℕ) (old new : Members)
    → IfOk result (λ value. answer ≡ Ok value)
    → OnOk answer (claim_set key (gives (one_member key (string claim))) old ≡ becomes new)
    → (claim ≡ text) × IsDate text → IsMomentText moment.nanosecond text → OnOk result (IsTimeSet key (Some moment) old new)
time_set (Ok value) answer key moment text claim old new answered set same says = (text, says, same.1, rw same.0 at (rw answered at set))
time_set (Err error) answer key moment text claim old new answered set same says = tt

-- the claim of a moment whose text is no date
pub no_date : (key : List ℕ) (moment : Timestamp) (text : List ℕ) → IsMomentText moment.nanosecond text → ¬ IsDate text → IsNeverSet key (Some moment)
no_date key moment text says none old new set = none (rw (same_text moment.nanosecond set.0 text set.1 says) at set.2)

-- ---- what a builder refuses

-- an answer that only memory stops
no_fault : (found : Option Fault) (made : Members) → MatchOption found ⊥ (λ fault. becomes made ≡ refused fault) → ⊥
no_fault None made is = is
no_fault (Some fault) made is = cc

only_memory : (outcome : Outcome) (made : Members) (error : GenericBuilderError) → outcome ≡ becomes made → IsRefusal outcome error → IsMemory error
only_memory outcome made (Memory source) is refusal = tt
only_memory outcome made (ClaimError error) is refusal = absurd (no_fault (fault_of error) made (rw is at refusal))
only_memory outcome made error is refusal = absurd refusal

-- a text is set under a key of its own
exp_set : (text : List ℕ) (old : Members) → claim_set (codes "exp") (gives (one_member (codes "exp") (string text))) old ≡ becomes (put (codes "exp") (string text) old)
exp_set text old = refl

nbf_set : (text : List ℕ) (old : Members) → claim_set (codes "nbf") (gives (one_member (codes "nbf") (string text))) old ≡ becomes (put (codes "nbf") (string text) old)
nbf_set text old = refl

pub outside_set : {T U : Type 0} (result : Result T ProgramError) (answer : Result U GenericBuilderError) (outcome : Outcome) (made : Members) (X : Type 0)
    → outcome ≡ becomes made → IfErr answer (IsRefusal outcome)
    → IfErr result (λ error. IsErrAnd answer (λ source. IsOutside error ⊎ (¬ IsMemory source)))
    → IfErr result (λ error. IsOutside error ⊎ X)
outside_set (Ok value) answer outcome made X is refusal built = tt
outside_set (Err error) (Ok value) outcome made X is refusal built = absurd built
outside_set (Err error) (Err source) outcome made X is refusal (inl outside) = inl outside
outside_set (Err error) (Err source) outcome made X is refusal (inr none) = absurd (none (only_memory outcome made source is refusal))

pub exp_refused : {T U : Type 0} (result : Result T ProgramError) (answer : Result U GenericBuilderError) (text : List ℕ) (old : Members) (X : Type 0)
    → IfErr answer (IsRefusal (claim_set (codes "exp") (gives (one_member (codes "exp") (string text))) old))
    → IfErr result (λ error. IsErrAnd answer (λ source. IsOutside error ⊎ (¬ IsMemory source)))
    → IfErr result (λ error. IsOutside error ⊎ X)
exp_refused result answer text old X = outside_set result answer _ _ X (exp_set text old)

pub nbf_refused : {T U : Type 0} (result : Result T ProgramError) (answer : Result U GenericBuilderError) (text : List ℕ) (old : Members) (X : Type 0)
    → IfErr answer (IsRefusal (claim_set (codes "nbf") (gives (one_member (codes "nbf") (string text))) old))
    → IfErr result (λ error. IsErrAnd answer (λ source. IsOutside error ⊎ (¬ IsMemory source)))
    → IfErr result (λ error. IsOutside error ⊎ X)
nbf_refused result answer text old X = outside_set result answer _ _ X (nbf_set text old)

-- a claim that is refused once is refused always
whole_apart : (whole : Bool) (key : List ℕ) (value : Data) (a b next : Members) (fault : Fault)
    → (if whole then becomes (put key value a) else refused (unexpected key)) ≡ refused fault
    → (if whole then becomes (put key value b) else refused (unexpected key)) ≡ becomes next → ⊥
whole_apart true key value a b next fault is set = cc is
whole_apart false key value a b next fault is set = cc set

set_apart : (key : List ℕ) (value : Data) (a b next : Members) (fault : Fault)
    → claim_set key (gives value) a ≡ refused fault → claim_set key (gives value) b ≡ becomes next → ⊥
set_apart [] value a b next fault is set = cc is
set_apart (first ∷ rest) value a b next fault is set =
    whole_apart (is_whole (unwrapped (first ∷ rest) value)) (first ∷ rest) (unwrapped (first ∷ rest) value) a b next fault is set

fault_never : (claim : Named) (claims : List Named) (held : Members) (found : Option Fault)
    → MatchOption found ⊥ (λ fault. claim_set claim.name (gives (json_of claim)) held ≡ refused fault) → AreNeverSet (claim ∷ claims)
fault_never claim claims held None is old new set = is
fault_never claim claims held (Some fault) is old new set = set_apart claim.name (json_of claim) held old set.0 fault is set.1

claim_never : (claim : Named) (claims : List Named) (held : Members) (source : GenericBuilderError)
    → IsRefusal (claim_set claim.name (gives (json_of claim)) held) source → ¬ IsMemory source → AreNeverSet (claim ∷ claims)
claim_never claim claims held (Memory source) is none = absurd (none tt)
claim_never claim claims held (ClaimError source) is none = fault_never claim claims held (fault_of source) is
claim_never claim claims held source is none = absurd is

pub claim_refused : {T : Type 0} (claim : Named) (claims : List Named) (held : Members) (answer : Result T GenericBuilderError) (error : ProgramError)
    → IfErr answer (IsRefusal (claim_set claim.name (gives (json_of claim)) held))
    → IsErrAnd answer (λ source. IsOutside error ⊎ (¬ IsMemory source))
    → IsOutside error ⊎ AreNeverSet (claim ∷ claims)
claim_refused claim claims held (Ok value) error is built = absurd built
claim_refused claim claims held (Err source) error is (inl outside) = inl outside
claim_refused claim claims held (Err source) error is (inr none) = inr (claim_never claim claims held source is none)

-- what is ordered is never the claims of a builder, where a part of it is never set
module _ (order : Ordered) (error : ProgramError) where
  pub claims_never : IsOutside error ⊎ AreNeverSet order.claims → IsOutside error ⊎ AreNever order
  claims_never (inl outside) = inl outside
  claims_never (inr never) = inr (λ claims are. never are.begun are.named are.are_set)

  pub expiry_never : IsOutside error ⊎ IsNeverSet (codes "exp") order.expires → IsOutside error ⊎ AreNever order
  expiry_never (inl outside) = inl outside
  expiry_never (inr never) = inr (λ claims are. never are.named are.expiring are.expires)

  pub begin_never : IsOutside error ⊎ IsNeverSet (codes "nbf") order.not_before → IsOutside error ⊎ AreNever order
  begin_never (inl outside) = inl outside
  begin_never (inr never) = inr (λ claims are. never are.expiring claims are.not_before)

-- ---- the keys that it counts

counted_same : (key : List ℕ) (a b : Counting) → IsSame a b → IsSame (counted key a) (counted key b)
counted_same key a b same = record {
  is_counted = λ other. rw (same.is_counted other) refl;
  repeated = rw (same.is_counted key, same.repeated) refl;
}

all_same : (claims : List Named) (a b : Counting) → IsSame a b → IsSame (all_counted claims a) (all_counted claims b)
all_same [] a b same = same
all_same (claim ∷ claims) a b same = all_same claims (counted claim.name a) (counted claim.name b) (counted_same claim.name a b same)

time_same : (key : List ℕ) (moment : Option Timestamp) (a b : Counting) → IsSame a b → IsSame (time_counted key moment a) (time_counted key moment b)
time_same key None a b same = same
time_same key (Some moment) a b same = counted_same key a b same

then_same : (a b c : Counting) → IsSame a b → IsSame b c → IsSame a c
then_same a b c first second = record {
  is_counted = λ key. second.is_counted key ∙ first.is_counted key;
  repeated = second.repeated ∙ first.repeated;
}

-- a claim is counted, and then others
pub counted_more : {T E : Type 0} (result : Result T E) (claim : Named) (claims : List Named) (old next new : Counting)
    → IsSame (counted claim.name old) next → OnOk result (IsSame (all_counted claims next) new) → OnOk result (IsSame (all_counted (claim ∷ claims) old) new)
counted_more (Ok value) claim claims old next new first more =
    then_same _ _ _ (all_same claims (counted claim.name old) next first) more
counted_more (Err error) claim claims old next new first more = tt

-- all that is ordered
pub counted_all : (order : Ordered) (begun named expiring last : Counting) → IsSame nothing_counted begun → IsSame (all_counted order.claims begun) named
    → IsSame (time_counted (codes "exp") order.expires named) expiring → IsSame (time_counted (codes "nbf") order.not_before expiring) last
    → IsSame (keys_set order) last
counted_all order begun named expiring last a b c d =
    let claims = then_same _ _ _ (all_same order.claims nothing_counted begun a) b in
    let times = then_same _ _ _ (time_same (codes "exp") order.expires _ named claims) c in
    then_same _ _ _ (time_same (codes "nbf") order.not_before _ expiring times) d

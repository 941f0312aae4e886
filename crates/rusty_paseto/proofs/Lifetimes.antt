-- What is said where a token's lifetime is set.
use Rattle.std.proofs.Common.{◌≡◌, ℤ, ℕ, List, Result, Ok, Err, OnOk, None, sym}
use Rattle.serde_json.specs.Data.{Members, put, string}
use Rattle.rusty_paseto_claims.specs.Error.{fault_of}
use Rattle.rusty_paseto_claims.specs.Moment.{IsMomentText}
use Rattle.rusty_paseto_claims.specs.declared.error.PasetoClaimError.{PasetoClaimError}
use Rattle.rusty_paseto_claims.specs.declared.error.PasetoClaimError.TheVariants as Claim
use Rattle.rusty_paseto_generic.specs.Builders.Claims.{becomes}
use Rattle.rusty_paseto_generic.specs.Error.{IsMemory, of_claim}
use Rattle.rusty_paseto.specs.Moment.{HasText}
use Rattle.rusty_paseto.specs.PasetoBuilder.{GetsEnd, expiration_key}

-- the claim of the end's text is the expiration
pub gets_end : {T E : Type 0} (end : ℤ) (text : List ℕ) (old new : Members) (result : Result T E) → HasText end → IsMomentText end text
    → OnOk result (becomes (put expiration_key (string text) old) ≡ becomes new) → OnOk result (GetsEnd end old new)
gets_end end text old new (Ok done) has is_text set =
    let same : put expiration_key (string text) old ≡ new = cc set in
    record { has_text = has; text = text; is_text = is_text; is = sym same }
gets_end end text old new (Err error) has is_text set = tt

-- a claim that is refused for want of memory is so in a builder
pub memory_of_claim : (error : PasetoClaimError) → fault_of error ≡ None → IsMemory (of_claim error)
memory_of_claim Claim.Expired none = cc none
memory_of_claim (Claim.UseBeforeAvailable t) none = cc none
memory_of_claim (Claim.RFC3339Date t) none = cc none
memory_of_claim (Claim.Missing k) none = cc none
memory_of_claim (Claim.Unexpected k) none = cc none
memory_of_claim (Claim.CustomValidation k) none = cc none
memory_of_claim (Claim.Invalid k found wanted) none = cc none
memory_of_claim (Claim.Reserved k) none = cc none
memory_of_claim (Claim.DuplicateTopLevelPayloadClaim k) none = cc none
memory_of_claim (Claim.Memory refused) none = tt

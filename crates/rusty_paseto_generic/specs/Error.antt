-- What is said of the errors of builders.
pub mod Parser
use Rattle.std.specs.Prelude.{◌≡◌, ⊤, ℕ, List, ◌++◌, Option, Some, None, alloc_error, codes, string_bytes}
use Rattle.serde_json.specs.Errors.{IsMemory as IsMemoryOfJson}
use Rattle.serde_json.specs.declared.error.Error.{Error}
use Rattle.rusty_paseto_claims.specs.Error.{Fault, IsFault, unexpected, error_text as claim_text}
use Rattle.rusty_paseto_claims.specs.declared.PasetoClaimError.{PasetoClaimError}
use Rattle.rusty_paseto_claims.specs.declared.PasetoClaimError.TheVariants as Claim
use Rattle.rusty_paseto_core.specs.declared.PasetoError.{PasetoError}
use Rattle.rusty_paseto_core.specs.declared.PasetoError.TheVariants as Cipher
use Rattle.rusty_paseto_generic.specs.declared.error.GenericBuilderError.{GenericBuilderError}
use Rattle.rusty_paseto_generic.specs.declared.error.GenericBuilderError.TheVariants.{ClaimError, BadEmailAddress, DuplicateTopLevelPayloadClaim, CipherError, PayloadJsonError, Memory}

-- memory was refused
abbrev pub IsMemory : GenericBuilderError → Type 0
IsMemory (Memory _) = ⊤
IsMemory _ = ⊥

-- why the token was not sealed or signed, where it was not
abbrev pub cause_of : GenericBuilderError → Option PasetoError
cause_of (CipherError source) = Some source
cause_of _ = None

-- the error names this fault of a claim
abbrev pub IsClaimFault : Fault → GenericBuilderError → Type 0
IsClaimFault fault (ClaimError error) = IsFault fault error
IsClaimFault fault _ = ⊥

-- the error says that the value under the key is not whole
abbrev pub IsUnexpected : List ℕ → GenericBuilderError → Type 0
IsUnexpected key error = IsClaimFault (unexpected key) error

-- the error of a builder for that of a claim
abbrev pub of_claim : PasetoClaimError → GenericBuilderError
of_claim (Claim.Memory refused) = Memory refused
of_claim fault = ClaimError fault

-- the error of a builder for that of a token
abbrev pub of_cipher : PasetoError → GenericBuilderError
of_cipher (Cipher.Memory refused) = Memory refused
of_cipher refusal = CipherError refusal

-- the error of a builder for one that JSON was not written with
pub record IsOfJson (source : Error) (error : GenericBuilderError) : Type 0 where
  pub memory : IsMemoryOfJson source → error ≡ Memory alloc_error
  pub other : ¬ IsMemoryOfJson source → error ≡ PayloadJsonError source

-- the generator of random bytes failed: there is an error of its type, which nothing but a call of it gives
abbrev pub IsOfGenerator : Type 0 → GenericBuilderError → Type 0
IsOfGenerator Failure error = (error ≡ CipherError Cipher.Cipher) × Failure

-- the sealed box has no sealing
abbrev pub IsOfBox : GenericBuilderError → Type 0
IsOfBox error = error ≡ CipherError Cipher.ChaChaCipherError

-- what each error says
abbrev pub error_text : GenericBuilderError → List ℕ
error_text (ClaimError source) = claim_text source
error_text (BadEmailAddress text) = string_bytes text ++ codes " is an invalid iso8601 (email) string"
error_text (DuplicateTopLevelPayloadClaim key) =
    codes "The claim '" ++ (string_bytes key ++ codes "' appears more than once in the top level payload json")
error_text (CipherError _) = codes "A paseto cipher error occurred"
error_text (PayloadJsonError _) = codes "The payload was unable to be serialized into json"
error_text (Memory _) = codes "No memory was found"

-- What is said of the errors of parsers.
use Rattle.std.specs.Prelude.{◌≡◌, ⊤, ℕ, List, Option, Some, None, MatchOption, alloc_error, codes}
use Rattle.serde_json.specs.Errors.{IsMemory as IsMemoryOfJson}
use Rattle.serde_json.specs.declared.error.Error.{Error}
use Rattle.rusty_paseto_claims.specs.Error.{Fault, fault_of, error_text as claim_text}
use Rattle.rusty_paseto_claims.specs.declared.PasetoClaimError.{PasetoClaimError}
use Rattle.rusty_paseto_claims.specs.declared.PasetoClaimError.TheVariants as Claim
use Rattle.rusty_paseto_core.specs.declared.PasetoError.{PasetoError}
use Rattle.rusty_paseto_core.specs.declared.PasetoError.TheVariants as Cipher
use Rattle.rusty_paseto_generic.specs.declared.error.GenericParserError.{GenericParserError}
use Rattle.rusty_paseto_generic.specs.declared.error.GenericParserError.TheVariants.{ClaimError, CipherError, PayloadJsonError, Memory}

-- memory was refused
abbrev pub IsMemory : GenericParserError → Type 0
IsMemory (Memory _) = ⊤
IsMemory _ = ⊥

-- why the token was not opened or verified, where it was not
abbrev pub cause_of : GenericParserError → Option PasetoError
cause_of (CipherError source) = Some source
cause_of _ = None

-- the error names the fault that is found, or memory was refused
abbrev pub IsRefusal : Option Fault → GenericParserError → Type 0
IsRefusal found (Memory _) = ⊤
IsRefusal found (ClaimError error) = MatchOption (fault_of error) ⊥ (λ fault. found ≡ Some fault)
IsRefusal found _ = ⊥

-- the error of a parser for that of a claim
abbrev pub of_claim : PasetoClaimError → GenericParserError
of_claim (Claim.Memory refused) = Memory refused
of_claim fault = ClaimError fault

-- the error of a parser for that of a token
abbrev pub of_cipher : PasetoError → GenericParserError
of_cipher (Cipher.Memory refused) = Memory refused
of_cipher refusal = CipherError refusal

-- the error of a parser for one that JSON was not read with
pub record IsOfJson (source : Error) (error : GenericParserError) : Type 0 where
  pub memory : IsMemoryOfJson source → error ≡ Memory alloc_error
  pub other : ¬ IsMemoryOfJson source → error ≡ PayloadJsonError source

-- what each error says
abbrev pub error_text : GenericParserError → List ℕ
error_text (ClaimError source) = claim_text source
error_text (CipherError _) = codes "A paseto cipher error occurred"
error_text (PayloadJsonError _) = codes "The payload was unable to be serialized into json"
error_text (Memory _) = codes "No memory was found"

-- What an error of claims says.
use Rattle.std.specs.Prelude.{◌≡◌, ℕ, List, ◌++◌, Option, Some, None, codes, string_bytes}
use Rattle.rusty_paseto_claims.specs.declared.error.PasetoClaimError.{PasetoClaimError}
use Rattle.rusty_paseto_claims.specs.declared.error.PasetoClaimError.TheVariants.{Expired, UseBeforeAvailable, RFC3339Date, Missing, Unexpected, CustomValidation, Invalid, Reserved, DuplicateTopLevelPayloadClaim, Memory}

-- a fault of a claim, with its texts
pub data Fault : Type 0 where
  expired : Fault
  use_before_available : List ℕ → Fault
  malformed_date : List ℕ → Fault
  missing : List ℕ → Fault
  unexpected : List ℕ → Fault
  custom_validation : List ℕ → Fault
  invalid : List ℕ → List ℕ → List ℕ → Fault
  reserved : List ℕ → Fault
  duplicate : List ℕ → Fault

-- the fault that an error names: none where memory was refused
abbrev pub fault_of : PasetoClaimError → Option Fault
fault_of Expired = Some expired
fault_of (UseBeforeAvailable text) = Some (use_before_available (string_bytes text))
fault_of (RFC3339Date text) = Some (malformed_date (string_bytes text))
fault_of (Missing key) = Some (missing (string_bytes key))
fault_of (Unexpected key) = Some (unexpected (string_bytes key))
fault_of (CustomValidation key) = Some (custom_validation (string_bytes key))
fault_of (Invalid key found wanted) = Some (invalid (string_bytes key) (string_bytes found) (string_bytes wanted))
fault_of (Reserved key) = Some (reserved (string_bytes key))
fault_of (DuplicateTopLevelPayloadClaim key) = Some (duplicate (string_bytes key))
fault_of (Memory _) = None

-- memory was refused
abbrev pub IsMemory : PasetoClaimError → Type 0
IsMemory error = fault_of error ≡ None

-- the error names this fault
abbrev pub IsFault : Fault → PasetoClaimError → Type 0
IsFault fault error = fault_of error ≡ Some fault

-- what each error says. That of another text names the text that was found as the expected one, as the Rust crate does
abbrev pub error_text : PasetoClaimError → List ℕ
error_text Expired = codes "This token is expired"
error_text (UseBeforeAvailable date) = codes "The token cannot be used before " ++ string_bytes date
error_text (RFC3339Date text) = codes "The value " ++ (string_bytes text ++ codes " is a malformed RFC3339 date")
error_text (Missing key) = codes "The expected claim '" ++ (string_bytes key ++ codes "' was not found in the payload")
error_text (Unexpected key) = codes "Could not convert claim '" ++ (string_bytes key ++ codes "' to the expected data type")
error_text (CustomValidation key) = codes "The claim '" ++ (string_bytes key ++ codes "' failed custom validation")
error_text (Invalid key found wanted) =
    codes "The claim '" ++ (string_bytes key
    ++ (codes "' failed validation.  Expected '" ++ (string_bytes found
    ++ (codes "' but received '" ++ (string_bytes wanted ++ codes "'")))))
error_text (Reserved key) =
    codes "The key " ++ (string_bytes key
    ++ codes " is a reserved for use within PASETO.  To set a reserved claim, use the strong type: e.g - ExpirationClaimClaim")
error_text (DuplicateTopLevelPayloadClaim key) =
    codes "The claim '" ++ (string_bytes key ++ codes "' appears more than once in the top level payload json")
error_text (Memory _) = codes "No memory was found"

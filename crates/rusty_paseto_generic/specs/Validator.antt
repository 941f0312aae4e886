-- What a validator means.
use Rattle.std.specs.Prelude.{◌≡◌, ⊤, ℕ, List, Option, Some, MatchOption}
use Rattle.serde_json.specs.Data.{Data}
use Rattle.rusty_paseto_claims.specs.Error.{Fault, fault_of}
use Rattle.rusty_paseto_claims.specs.declared.PasetoClaimError.{PasetoClaimError}

-- what is found of a value under a key: its fault, or none
abbrev pub Verdict : Type 0
Verdict = List ℕ → Data → Option Fault

-- the error names a fault of which this holds, or memory was refused
abbrev pub IfFault : (Fault → Type 0) → PasetoClaimError → Type 0
IfFault Holds error = MatchOption (fault_of error) ⊤ Holds

-- the error names the fault that is found, or memory was refused
abbrev pub IsFound : Option Fault → PasetoClaimError → Type 0
IsFound found = IfFault (λ fault. found ≡ Some fault)

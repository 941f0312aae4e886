-- When a claim of a caller's own is refused.
use Rattle.std.specs.Prelude.{◌≡◌, ℕ, List, ⊤, MatchOption}
use Rattle.rusty_paseto_claims.specs.Error.{reserved, fault_of}
use Rattle.rusty_paseto_claims.specs.Reserved.{IsReserved}
use Rattle.rusty_paseto_claims.specs.declared.error.PasetoClaimError.{PasetoClaimError}

-- the error says that the key is reserved, and it is, or memory was refused
abbrev pub IsReservedFault : List ℕ → PasetoClaimError → Type 0
IsReservedFault key error = MatchOption (fault_of error) ⊤ (λ fault. (fault ≡ reserved key) × IsReserved key)

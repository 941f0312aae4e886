-- Random bytes for a token.
use Rattle.std.specs.Prelude.{◌≡◌, ◌≢◌, ◌⊎◌, ℕ, List, length}
use Rattle.paseto_keys.specs.Error.{IsMemory}
use Rattle.paseto_keys.specs.declared.error.KeyError.{KeyError}
use Rattle.paseto_keys.specs.declared.error.KeyError.TheVariants.{Random}

-- so many bytes are drawn: the generator gives them, and for none it is not called
pub record IsDraw (count : ℕ) (IsGiven : List ℕ → Type 0) (IsNotCalled : Type 0) (bytes : List ℕ) : Type 0 where
  pub size : length bytes ≡ count
  pub given : count ≢ 0 → IsGiven bytes
  pub none : count ≡ 0 → IsNotCalled

-- why so many bytes are not drawn: memory was refused, or the generator failed, which is called for some alone
abbrev pub IsDrawFault : Type 0 → ℕ → KeyError → Type 0
IsDrawFault Failure count error = IsMemory error ⊎ ((error ≡ Random) × Failure × (count ≢ 0))

-- Why a key has no line.
use Rattle.std.proofs.Common.{◌≡◌, ◌⊎◌, ℕ, List, inl, inr, refl, ap}
use Rattle.rusty_paseto_paserk.specs.Error.{IsMemory as IsPaserkMemory}
use Rattle.rusty_paseto_paserk.specs.Text.{IsLengthFault}
use Rattle.rusty_paseto_paserk.specs.declared.error.PaserkError.{PaserkError}
use Rattle.rusty_paseto_paserk.specs.declared.error.PaserkError.TheVariants.{InvalidKey, Memory as NoPaserkMemory}
use Rattle.paseto_key_files.specs.Error.{IsMemory, paserk_error_of}
use Rattle.paseto_keys.specs.WrittenLine.{HasNoLength, IsNoKey}

pub no_length : (n : ℕ) (bytes : List ℕ) (error : PaserkError) → IsLengthFault n bytes error
    → IsMemory (paserk_error_of error) ⊎ HasNoLength n bytes (paserk_error_of error)
no_length n bytes (NoPaserkMemory source) h = inl tt
no_length n bytes InvalidKey h = inr (refl, h)
no_length n bytes error h = absurd h

pub no_rsa_key : (IsKey : List ℕ → Type 0) (bytes : List ℕ) (error : PaserkError) → IsPaserkMemory error ⊎ ((error ≡ InvalidKey) × ¬ IsKey bytes)
    → IsMemory (paserk_error_of error) ⊎ IsNoKey IsKey bytes (paserk_error_of error)
no_rsa_key IsKey bytes (NoPaserkMemory source) h = inl tt
no_rsa_key IsKey bytes error (inl memory) = absurd memory
no_rsa_key IsKey bytes error (inr other) = inr (ap paserk_error_of other.0, other.1)

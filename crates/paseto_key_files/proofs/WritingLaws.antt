-- Keys that are put under a password or a key.
use Rattle.std.proofs.Common.{◌⊎◌, ℕ, List, inl, inr}
use Rattle.paseto_wrapping.specs.declared.cost.PasswordCost.{PasswordCost}
use Rattle.paseto_wrapping.specs.declared.error.WrapError.{WrapError}
use Rattle.paseto_wrapping.specs.declared.error.WrapError.TheVariants.{InvalidCost, InvalidKey, InvalidNonce, LongPassword, Memory as NoWrapMemory}
use Rattle.rusty_paseto_paserk.specs.declared.header.PaserkVersion.{PaserkVersion}
use Rattle.paseto_wrapping.specs.Error.{IsMemory as IsWrapMemory}
use Rattle.paseto_wrapping.specs.Family.{family_of}
use Rattle.paseto_wrapping.specs.Keys.{IsPrivateFault, IsWrappable}
use Rattle.paseto_wrapping.specs.Password.{AreDrawn, IsWritingFault}
use Rattle.paseto_key_files.specs.Error.{IsMemory, wrap_error_of}
use Rattle.paseto_key_files.specs.Password.{IsCostFault}

-- why a key is not put under a password by a salt and a nonce of their lengths
pub cost_fault : (version : PaserkVersion) (salt nonce password : List ℕ) (cost : PasswordCost) (error : WrapError) → AreDrawn (family_of version) salt nonce
    → IsWritingFault (family_of version) salt nonce password cost error → IsMemory (wrap_error_of error) ⊎ IsCostFault version password cost (wrap_error_of error)
cost_fault version salt nonce password cost (NoWrapMemory source) drawn h = inl tt
cost_fault version salt nonce password cost InvalidNonce drawn h = absurd (h drawn)
cost_fault version salt nonce password cost LongPassword drawn h = inr h.1
cost_fault version salt nonce password cost InvalidCost drawn h = inr (h.1, h.2)
cost_fault version salt nonce password cost error drawn h = absurd h

-- a private key that can be wrapped is not refused
pub wrapped_memory : (version : PaserkVersion) (key : List ℕ) (error : WrapError) → IsWrappable version key → IsPrivateFault version key IsWrapMemory error
    → IsMemory (wrap_error_of error)
wrapped_memory version key InvalidKey is h = absurd (h is)
wrapped_memory version key (NoWrapMemory source) is h = tt
wrapped_memory version key error is h = absurd h.1

-- the same under a password
pub protected_fault : (version : PaserkVersion) (key salt nonce password : List ℕ) (cost : PasswordCost) (error : WrapError) → IsWrappable version key
    → AreDrawn (family_of version) salt nonce → IsPrivateFault version key (IsWritingFault (family_of version) salt nonce password cost) error
    → IsMemory (wrap_error_of error) ⊎ IsCostFault version password cost (wrap_error_of error)
protected_fault version key salt nonce password cost InvalidKey is drawn h = absurd (h is)
protected_fault version key salt nonce password cost (NoWrapMemory source) is drawn h = inl tt
protected_fault version key salt nonce password cost InvalidNonce is drawn h = absurd (h.1 drawn)
protected_fault version key salt nonce password cost LongPassword is drawn h = inr h.1.1
protected_fault version key salt nonce password cost InvalidCost is drawn h = inr (h.1.1, h.1.2)
protected_fault version key salt nonce password cost error is drawn h = absurd h.1

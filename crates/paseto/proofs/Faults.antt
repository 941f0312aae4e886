-- Why a key has no text, in the words of the program.
use Rattle.std.proofs.Common.{◌≡◌, ◌⊎◌, ℕ, List, inl, inr, sym, subst}
use Rattle.paseto_key_files.specs.Error.{IsMemory as IsFileMemory}
use Rattle.paseto_key_files.specs.declared.error.KeyFileError.{KeyFileError}
use Rattle.paseto_key_files.specs.declared.error.KeyFileError.TheVariants.{Memory as NoFileMemory}
use Rattle.paseto_tasks.specs.Error.{IsMemory, key_file_error_of}
use Rattle.paseto.specs.declared.fault.Fault.{Fault}
use Rattle.paseto.specs.Keys.{IsKeyFault, IsOtherFault}

module _ (Is : KeyFileError → Type 0) (fault : Fault) where
  -- about the key
  pub key_fault : (name : List ℕ) (error : KeyFileError) → fault.about.now ≡ name → fault.error ≡ key_file_error_of error → IsFileMemory error ⊎ Is error → IsKeyFault name Is fault
  key_fault name (NoFileMemory source) about same known = inl (subst IsMemory (sym same) tt)
  key_fault name error about same (inl memory) = absurd memory
  key_fault name error about same (inr is) = inr (about, (error, is, same))

  -- about the key or the other one
  pub other_fault : (named : KeyFileError → List ℕ) (error : KeyFileError) → fault.about.now ≡ named error → fault.error ≡ key_file_error_of error
      → IsFileMemory error ⊎ Is error → IsOtherFault named Is fault
  other_fault named (NoFileMemory source) about same known = inl (subst IsMemory (sym same) tt)
  other_fault named error about same (inl memory) = absurd memory
  other_fault named error about same (inr is) = inr (error, is, about, same)

-- Errors that were taken over.
use Rattle.std.proofs.Common.{ℕ, List}
use Rattle.paseto_pem.specs.Error.{IsMemory as IsPemMemory}
use Rattle.paseto_pem.specs.PemKey.{IsAnyFault}
use Rattle.paseto_pem.specs.declared.error.PemError.{PemError}
use Rattle.paseto_pem.specs.declared.error.PemError.TheVariants.{Memory as NoPemMemory}
use Rattle.paseto_wrapping.specs.Error.{IsMemory as IsWrapMemory}
use Rattle.paseto_wrapping.specs.declared.error.WrapError.{WrapError}
use Rattle.paseto_wrapping.specs.declared.error.WrapError.TheVariants.{Memory as NoWrapMemory}
use Rattle.rusty_paseto_paserk.specs.Error.{IsMemory as IsPaserkMemory}
use Rattle.rusty_paseto_paserk.specs.Text.{IsKeyFault}
use Rattle.rusty_paseto_paserk.specs.declared.header.PaserkVersion.{PaserkVersion}
use Rattle.rusty_paseto_paserk.specs.declared.header.PaserkType.{PaserkType}
use Rattle.rusty_paseto_paserk.specs.declared.error.PaserkError.{PaserkError}
use Rattle.rusty_paseto_paserk.specs.declared.error.PaserkError.TheVariants.{Memory as NoPaserkMemory}
use Rattle.paseto_key_files.specs.Error.{IsMemory, opener_error_of, paserk_error_of, pem_error_of, wrap_error_of}
use Rattle.paseto_key_files.specs.Line.{IsPaserkFault}
use Rattle.paseto_key_files.specs.Pem.{PemLineFault}

pub pem_memory : (error : PemError) → IsPemMemory error → IsMemory (pem_error_of error)
pem_memory (NoPemMemory source) h = tt
pem_memory error h = absurd h

pub wrap_memory : (error : WrapError) → IsWrapMemory error → IsMemory (wrap_error_of error)
wrap_memory (NoWrapMemory source) h = tt
wrap_memory error h = absurd h

pub paserk_memory : (error : PaserkError) → IsPaserkMemory error → IsMemory (paserk_error_of error)
paserk_memory (NoPaserkMemory source) h = tt
paserk_memory error h = absurd h

pub opener_memory : (error : PaserkError) → IsPaserkMemory error → IsMemory (opener_error_of error)
opener_memory (NoPaserkMemory source) h = tt
opener_memory error h = absurd h

pub pem_fault : (text : List ℕ) (error : PemError) → IsAnyFault text error → PemLineFault text (pem_error_of error)
pem_fault text (NoPemMemory source) h = tt
pem_fault text error h = h

pub paserk_fault : (version : PaserkVersion) (kind : PaserkType) (IsKey : List ℕ → Type 0) (line : List ℕ) (error : PaserkError)
    → IsKeyFault version kind IsKey line error → IsPaserkFault version kind IsKey line (paserk_error_of error)
paserk_fault version kind IsKey line (NoPaserkMemory source) h = tt
paserk_fault version kind IsKey line error h = h

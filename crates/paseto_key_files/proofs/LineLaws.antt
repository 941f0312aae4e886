-- Lines that are read.
use Rattle.std.proofs.Common.{ℕ, List, Ok, Err}
use Rattle.rusty_paseto_paserk.specs.Rsa.{ReadsForm}
use Rattle.rusty_paseto_paserk.specs.Text.{ReadsKey as ReadsPaserk}
use Rattle.rusty_paseto_paserk.specs.declared.header.PaserkVersion.{PaserkVersion}
use Rattle.rusty_paseto_paserk.specs.declared.header.PaserkType.{PaserkType}
use Rattle.rusty_paseto_paserk.specs.declared.error.PaserkError.{PaserkError}
use Rattle.rusty_paseto_paserk.specs.declared.header.PaserkVersion.TheVariants.{V1}
use Rattle.paseto_key_files.specs.Error.{paserk_error_of}
use Rattle.paseto_key_files.specs.Line.{IsFormOf, IsPaserkFault, IsSomeForm, IsWritingOf, ReadsKey}
use Rattle.paseto_key_files.proofs.Errors.{paserk_fault, paserk_memory}

module _ (version : PaserkVersion) (kind : PaserkType) (IsKey : List ℕ → Type 0) (line : List ℕ) where
  pub paserk_read : (key : List ℕ) → ReadsPaserk version kind IsKey line (Ok key)
      → ReadsKey (IsWritingOf version kind IsKey) (IsPaserkFault version kind IsKey) line (Ok key)
  paserk_read key reads = record {
    found = record { bytes = reads.bytes; form = reads.form; written = reads.written };
    read = λ other h. reads.read other h.bytes h.form h.written;
    refused = tt;
  }

  pub paserk_refused : (error : PaserkError) → ReadsPaserk version kind IsKey line (Err error)
      → ReadsKey (IsWritingOf version kind IsKey) (IsPaserkFault version kind IsKey) line (Err (paserk_error_of error))
  paserk_refused error reads = record {
    found = tt;
    read = λ other h. paserk_memory error (reads.read other h.bytes h.form h.written);
    refused = paserk_fault version kind IsKey line error reads.refused;
  }

-- the same of the forms of a key of version 1
module _ (kind : PaserkType) (IsForm : List ℕ → List ℕ → Type 0) (line : List ℕ) where
  pub form_read : (key : List ℕ) → ReadsForm kind IsForm line (Ok key)
      → ReadsKey (IsFormOf kind IsForm) (IsPaserkFault V1 kind (IsSomeForm IsForm)) line (Ok key)
  form_read key reads = record {
    found = record { octets = reads.found.0; bytes = reads.found.1; form = reads.found.3; written = reads.found.2 };
    read = λ other h. reads.read h.octets other h.bytes h.form h.written;
    refused = tt;
  }

  pub form_refused : (error : PaserkError) → ReadsForm kind IsForm line (Err error)
      → ReadsKey (IsFormOf kind IsForm) (IsPaserkFault V1 kind (IsSomeForm IsForm)) line (Err (paserk_error_of error))
  form_refused error reads = record {
    found = tt;
    read = λ other h. paserk_memory error (reads.read h.octets other h.bytes h.form h.written);
    refused = paserk_fault V1 kind (IsSomeForm IsForm) line error reads.refused;
  }

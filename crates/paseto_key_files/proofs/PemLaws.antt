-- Keys in PEM.
use Rattle.std.proofs.Common.{◌≡◌, ◌⊎◌, ℕ, List, length, Result, Ok, Err, IfOk, IfErr, String, Global, string_bytes, inl, inr, refl, sym, ap, subst, ◌∙◌}
use Rattle.paseto_p384.specs.P384.{IsPrivate}
use Rattle.paseto_pem.specs.Error.{IsMemory as IsPemMemory}
use Rattle.paseto_pem.specs.Info.{public_key_info}
use Rattle.paseto_pem.specs.Algorithm.{rsa}
use Rattle.paseto_pem.specs.PemKey.{IsPemKey, ReadsAnyKey}
use Rattle.paseto_pem.specs.Rsa.{IsPrivateForm as IsRsaPrivateForm, IsPrivateWritten as IsRsaPrivateWritten, IsPublicForm as IsRsaPublicForm, IsPublicWritten as IsRsaPublicWritten}
use Rattle.paseto_pem.proofs.WrittenKeys.{rsa_private_is_read, rsa_public_is_read}
use Rattle.paseto_rsa.specs.Forms.{IsPublic as IsRsaPublic}
use Rattle.paseto_rsa.specs.Keys.{IsPrivate as IsRsaPrivate}
use Rattle.paseto_pem.specs.declared.label.Label.TheVariants.{PrivateKey, PublicKey}
use Rattle.paseto_pem.specs.Key.{Contents}
use Rattle.paseto_pem.specs.Ed25519.{IsPrivateOf as IsEdwardsPrivateOf}
use Rattle.paseto_pem.specs.P384.{IsPrivateOf as IsCurvePrivateOf}
use Rattle.paseto_pem.specs.declared.label.Label.{Label}
use Rattle.paseto_pem.specs.declared.error.PemError.{PemError}
use Rattle.paseto_pem.specs.declared.error.PemError.TheVariants.{InvalidKey, Memory as NoPemMemory}
use Rattle.paseto_pem.specs.declared.pem_key.PemKey.{PemKey}
use Rattle.paseto_key_files.specs.declared.error.KeyFileError.{KeyFileError}
use Rattle.paseto_key_files.specs.declared.error.KeyFileError.TheVariants.{Memory, Pem}
use Rattle.paseto_key_files.specs.Error.{IsMemory, pem_error_of}
use Rattle.paseto_key_files.specs.Held.{GivesLine}
use Rattle.rusty_paseto_paserk.specs.declared.header.PaserkVersion.{PaserkVersion}
use Rattle.rusty_paseto_paserk.specs.declared.header.PaserkType.{PaserkType}
use Rattle.paseto_key_files.specs.Line.{IsPaserkFault, WritesLine}
use Rattle.paseto_key_files.specs.Pem.{HasNoPem, PemLine, PemLineFault, line_of}
use Rattle.paseto_key_files.proofs.Errors.{pem_fault, pem_memory}

-- ---- keys of the length of their version's

p384_length : (key : List ℕ) → IsPrivate key → length key ≡ 48
unfolding IsPrivate
p384_length key h = h.0

pub curve_length : (label : Label) (contents key : List ℕ) → IsCurvePrivateOf label contents key → length key ≡ 48
curve_length label contents key h = p384_length key h.point.0

pub edwards_length : (label : Label) (contents key : List ℕ) → IsEdwardsPrivateOf label contents key → length key ≡ 64
edwards_length label contents key h = h.whole

-- ---- lines that are written

pub written_ok : (IsKey : List ℕ → Type 0) (line_of : List ℕ → List ℕ) (key : List ℕ) (answer : Result (String Global) KeyFileError)
    → WritesLine IsKey line_of key answer → IfOk answer (λ line. string_bytes line ≡ line_of key)
written_ok IsKey line_of key (Ok line) writes = writes.ok.1
written_ok IsKey line_of key (Err error) writes = tt

pub written_err : (IsKey : List ℕ → Type 0) (line_of : List ℕ → List ℕ) (key : List ℕ) (answer : Result (String Global) KeyFileError)
    → IsKey key → WritesLine IsKey line_of key answer → IfErr answer IsMemory
written_err IsKey line_of key (Ok line) is writes = tt
written_err IsKey line_of key (Err error) is writes = elim writes.refused [ inl memory ↦ memory | inr other ↦ absurd (other.1 is) ]

-- ---- the line of a text in PEM

module _ (text : List ℕ) where
  pub not_in_pem : (error : PemError) → ReadsAnyKey text (Err error) → GivesLine (PemLine text) (PemLineFault text) (Err (pem_error_of error))
  not_in_pem error reads = record {
    found = tt;
    read = λ line h. pem_memory error (reads.read h.key h.held);
    refused = pem_fault text error reads.refused;
  }

  memory_refused : (error : KeyFileError) → IsMemory error → GivesLine (PemLine text) (PemLineFault text) (Err error)
  memory_refused (Memory source) h = record { found = tt; read = λ line is. tt; refused = tt }
  memory_refused error h = absurd h

  pub in_pem : (key : PemKey) → ReadsAnyKey text (Ok key) → (answer : Result (String Global) KeyFileError)
      → IfOk answer (λ line. string_bytes line ≡ line_of key) → IfErr answer IsMemory
      → GivesLine (PemLine text) (PemLineFault text) answer
  in_pem key reads (Ok line) ok err = record {
    found = record { key = key; held = reads.found; line_is = ok };
    read = λ other h. ok ∙ ap line_of (reads.read h.key h.held) ∙ sym h.line_is;
    refused = tt;
  }
  in_pem key reads (Err error) ok err = memory_refused error err

-- ---- lines that are written in PEM

pub no_pem : (IsLine : List ℕ → List ℕ → Type 0) (IsKeyOf : Contents) (label : Label) (line key : List ℕ) (error : PemError) → IsLine key line
    → IsPemMemory error ⊎ ((error ≡ InvalidKey) × ((contents : List ℕ) → ¬ IsKeyOf label contents key))
    → HasNoPem IsLine IsKeyOf label line (pem_error_of error)
no_pem IsLine IsKeyOf label line key (NoPemMemory source) is h = tt
no_pem IsLine IsKeyOf label line key error is (inl memory) = absurd memory
no_pem IsLine IsKeyOf label line key error is (inr other) =
    subst (λ (e : PemError). HasNoPem IsLine IsKeyOf label line (pem_error_of e)) (sym other.0) (key, is, other.1)

-- a key of RSA has a text
rsa_private_text : (key : List ℕ) → IsRsaPrivate key → IsRsaPrivateWritten PrivateKey key key
rsa_private_text key is =
    let form : IsRsaPrivateForm PrivateKey key key = record { is_private = refl; is_key = is; written = refl } in
    (form, rsa_private_is_read PrivateKey key key form)

rsa_public_text : (key : List ℕ) → IsRsaPublic key → IsRsaPublicWritten PublicKey (public_key_info rsa key) key
rsa_public_text key is =
    let form : IsRsaPublicForm PublicKey (public_key_info rsa key) key = record { is_public = refl; is_key = is; written = refl } in
    (form, rsa_public_is_read PublicKey (public_key_info rsa key) key form)

-- so that only memory is refused
module _ (IsKeyOf : Contents) (label : Label) (key contents : List ℕ) (is : IsKeyOf label contents key) where
  only_memory : (error : PemError) → IsPemMemory error ⊎ ((error ≡ InvalidKey) × ((other : List ℕ) → ¬ IsKeyOf label other key))
      → IsMemory (pem_error_of error)
  only_memory error (inl memory) = pem_memory error memory
  only_memory error (inr other) = absurd (other.1 contents is)

pub rsa_private_memory : (key : List ℕ) → IsRsaPrivate key → (error : PemError)
    → IsPemMemory error ⊎ ((error ≡ InvalidKey) × ((other : List ℕ) → ¬ IsRsaPrivateWritten PrivateKey other key)) → IsMemory (pem_error_of error)
rsa_private_memory key is = only_memory IsRsaPrivateWritten PrivateKey key key (rsa_private_text key is)

pub rsa_public_memory : (key : List ℕ) → IsRsaPublic key → (error : PemError)
    → IsPemMemory error ⊎ ((error ≡ InvalidKey) × ((other : List ℕ) → ¬ IsRsaPublicWritten PublicKey other key)) → IsMemory (pem_error_of error)
rsa_public_memory key is = only_memory IsRsaPublicWritten PublicKey key (public_key_info rsa key) (rsa_public_text key is)

-- refused memory is a fault of any line
pub memory_fault : (version : PaserkVersion) (kind : PaserkType) (IsKey : List ℕ → Type 0) (line : List ℕ) (error : KeyFileError) → IsMemory error
    → IsPaserkFault version kind IsKey line error
memory_fault version kind IsKey line (Memory source) h = tt
memory_fault version kind IsKey line error h = absurd h

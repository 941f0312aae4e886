-- Texts that are made of a key's line.
use Rattle.std.proofs.Common.{◌⊎◌, ℕ, List, Result, Ok, Err, IfOk, IfErr, String, Global, string_bytes, inl, inr}
use Rattle.paseto_key_files.specs.Error.{IsMemory}
use Rattle.paseto_key_files.specs.declared.error.KeyFileError.{KeyFileError}
use Rattle.paseto_keys.specs.AnyKey.{KeyParts}
use Rattle.paseto_keys.specs.Forms.{ByLine, ByNoLine}
use Rattle.paseto_keys.specs.WrittenLine.{HasNoLine, IsWrittenIn, WritesIn}

module _ (key : KeyParts) (IsMade : List ℕ → List ℕ → Type 0) (HasNone : List ℕ → KeyFileError → Type 0) where
  pub by_line : (line : List ℕ) → IsWrittenIn key.kind key.version key.bytes line → (answer : Result (String Global) KeyFileError)
      → IfOk answer (λ text. IsMade line (string_bytes text)) → IfErr answer (HasNone line)
      → WritesIn (ByLine key IsMade) (ByNoLine key HasNone) answer
  by_line line is (Ok text) ok err = record { ok = (line, is, ok); refused = tt }
  by_line line is (Err error) ok err = record { ok = tt; refused = inr (inr (line, is, err)) }

  pub by_no_line : (error : KeyFileError) → IsMemory error ⊎ HasNoLine key.kind key.version key.bytes error
      → WritesIn (ByLine key IsMade) (ByNoLine key HasNone) (Err error)
  by_no_line error (inl memory) = record { ok = tt; refused = inl memory }
  by_no_line error (inr none) = record { ok = tt; refused = inr (inl none) }

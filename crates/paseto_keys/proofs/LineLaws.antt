-- Lines that are read as keys.
use Rattle.std.proofs.Common.{◌≡◌, ◌++◌, ℕ, List, Ok, Err, Result, inl, inr, refl, sym, subst₂, ◌∙◌}
use Rattle.rusty_paseto_paserk.specs.Header.{HasNoHeader, header}
use Rattle.rusty_paseto_paserk.specs.Text.{writing}
use Rattle.rusty_paseto_paserk.proofs.KindLaws.{one_key_kind}
use Rattle.rusty_paseto_paserk.specs.declared.error.PaserkError.TheVariants.{NoKey}
use Rattle.rusty_paseto_paserk.specs.declared.header.PaserkType.{PaserkType}
use Rattle.rusty_paseto_paserk.specs.declared.header.PaserkType.TheVariants.{Local, Secret, Public}
use Rattle.rusty_paseto_paserk.specs.declared.header.PaserkVersion.{PaserkVersion}
use Rattle.rusty_paseto_paserk.specs.declared.header.PaserkVersion.TheVariants.{V1, V2, V3, V4}
use Rattle.paseto_key_files.specs.Line.{ReadsKey}
use Rattle.paseto_key_files.specs.declared.error.KeyFileError.{KeyFileError}
use Rattle.paseto_key_files.specs.declared.error.KeyFileError.TheVariants.{Paserk}
use Rattle.paseto_keys.specs.AnyKey.{KeyParts, key_parts, parts_of}
use Rattle.paseto_keys.specs.Line.{GivesKey, IsLineFault, IsLineOf, IsOf, IsPaserkFaultOf, IsPaserkIn, IsPaserkOf}
use Rattle.paseto_keys.specs.declared.any_key.AnyKey.{AnyKey}

-- a key is its parts
same_parts : (kind : PaserkType) (version : PaserkVersion) (bytes : List ℕ) (key : KeyParts) → key.kind ≡ kind → key.version ≡ version → bytes ≡ key.bytes
    → key_parts kind version bytes ≡ key
same_parts kind version bytes key kind_is version_is bytes_are = rw (sym kind_is, sym version_is, bytes_are) refl

module _ (kind : PaserkType) (version : PaserkVersion) (IsLine : List ℕ → List ℕ → Type 0) (IsFault : List ℕ → KeyFileError → Type 0) (line : List ℕ) where
  -- the key of a line, as a key of any version and type
  pub key_read : (bytes : List ℕ) (key : AnyKey) → parts_of key ≡ key_parts kind version bytes → ReadsKey IsLine IsFault line (Ok bytes)
      → GivesKey (IsOf kind version IsLine line) (IsFault line) (Ok key)
  key_read bytes key is reads = record {
    found = rw is (record { kind_is = refl; version_is = refl; is_line = reads.found });
    read = λ other h. is ∙ same_parts kind version bytes other h.kind_is h.version_is (reads.read other.bytes h.is_line);
    refused = tt;
  }

  pub key_refused : (error : KeyFileError) → ReadsKey IsLine IsFault line (Err error) → GivesKey (IsOf kind version IsLine line) (IsFault line) (Err error)
  key_refused error reads = record { found = tt; read = λ other h. reads.read other.bytes h.is_line; refused = reads.refused }

-- ---- lines

-- the line of a key is a writing
is_writing : (kind : PaserkType) (version : PaserkVersion) (bytes line : List ℕ) → IsPaserkOf kind version bytes line
    → (octets : List ℕ) × (line ≡ writing version kind octets)
is_writing Local version bytes line h = (bytes, h.written)
is_writing Secret V1 bytes line h = (h.octets, h.written)
is_writing Secret V2 bytes line h = (bytes, h.written)
is_writing Secret V3 bytes line h = (bytes, h.written)
is_writing Secret V4 bytes line h = (bytes, h.written)
is_writing Public V1 bytes line h = (h.octets, h.written)
is_writing Public V2 bytes line h = (bytes, h.written)
is_writing Public V3 bytes line h = (bytes, h.written)
is_writing Public V4 bytes line h = (bytes, h.written)

module _ (line : List ℕ) where
  module _ (kind : PaserkType) (version : PaserkVersion) (rest : List ℕ) (begins : line ≡ header version kind ++ rest) where
    meant : (key : KeyParts) → IsLineOf line key → IsPaserkIn kind version line key
    meant key h =
        let same = one_key_kind key.version version key.kind kind _ rest (sym (is_writing key.kind key.version key.bytes line h).1 ∙ begins) in
        record {
          kind_is = same.1;
          version_is = same.0;
          is_line = subst₂ (λ (k : PaserkType) (v : PaserkVersion). IsPaserkOf k v key.bytes line) same.1 same.0 h;
        }

    is_meant : (key : KeyParts) → IsPaserkIn kind version line key → IsLineOf line key
    is_meant key h = subst₂ (λ (k : PaserkType) (v : PaserkVersion). IsPaserkOf k v key.bytes line) (sym h.kind_is) (sym h.version_is) h.is_line

    pub paserk_line : (answer : Result AnyKey KeyFileError) → GivesKey (IsPaserkIn kind version line) (IsPaserkFaultOf kind version line) answer
        → GivesKey (IsLineOf line) (IsLineFault line) answer
    paserk_line (Ok key) gives = record {
      found = is_meant (parts_of key) gives.found;
      read = λ other h. gives.read other (meant other h);
      refused = tt;
    }
    paserk_line (Err error) gives = record {
      found = tt;
      read = λ other h. gives.read other (meant other h);
      refused = inr (version, kind, (rest, begins), gives.refused);
    }

  -- in no form
  pub no_line : HasNoHeader line → GivesKey (IsLineOf line) (IsLineFault line) (Err (Paserk NoKey))
  no_line no_header = record {
    found = tt;
    read = λ key h. absurd (no_header key.version key.kind (_, (is_writing key.kind key.version key.bytes line h).1));
    refused = inl (no_header, refl);
  }

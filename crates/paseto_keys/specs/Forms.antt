-- The texts of a key that are made of its line.
use Rattle.std.specs.Prelude.{◌⊎◌, ℕ, List}
use Rattle.paseto_key_files.specs.declared.error.KeyFileError.{KeyFileError}
use Rattle.paseto_keys.specs.AnyKey.{KeyParts}
use Rattle.paseto_keys.specs.WrittenLine.{HasNoLine, IsWrittenIn}

-- the text is one that is made of the key's line
abbrev pub ByLine : KeyParts → (List ℕ → List ℕ → Type 0) → List ℕ → Type 0
ByLine key IsMade text = (line : List ℕ) × IsWrittenIn key.kind key.version key.bytes line × IsMade line text

-- why there is none: the key has no line, or nothing is made of it
abbrev pub ByNoLine : KeyParts → (List ℕ → KeyFileError → Type 0) → KeyFileError → Type 0
ByNoLine key HasNone error =
    HasNoLine key.kind key.version key.bytes error
    ⊎ ((line : List ℕ) × IsWrittenIn key.kind key.version key.bytes line × HasNone line error)

-- The key of a key file: that of the line which the file opens as.
use Rattle.std.specs.Prelude.{◌⊎◌, ℕ, List}
use Rattle.paseto_key_files.specs.Opening.{Unlocks, UnlocksNone}
use Rattle.paseto_key_files.specs.declared.error.KeyFileError.{KeyFileError}
use Rattle.paseto_key_files.specs.declared.openers.Openers.{Openers}
use Rattle.paseto_keys.specs.AnyKey.{KeyParts}
use Rattle.paseto_keys.specs.Line.{IsLineFault, IsLineOf}

-- the text opens as the line of the key
abbrev pub UnlocksKey : Openers → List ℕ → KeyParts → Type 0
UnlocksKey openers text key = (line : List ℕ) × Unlocks openers text line × IsLineOf line key

-- why there is none: the text does not open, or opens as the line of no key
abbrev pub IsUnlockFault : Openers → List ℕ → KeyFileError → Type 0
IsUnlockFault openers text error =
    UnlocksNone openers text error ⊎ ((line : List ℕ) × Unlocks openers text line × IsLineFault line error)

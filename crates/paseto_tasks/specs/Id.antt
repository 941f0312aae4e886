-- The command `id`.
use Rattle.std.specs.Prelude.{◌≡◌, ℕ, List, Ok, Err, String, string_bytes}
use Rattle.std.specs.Global.{Global}
use Rattle.rusty_paseto_paserk.specs.Error.{IsMemory}
use Rattle.rusty_paseto_paserk.specs.declared.error.PaserkError.{PaserkError}
use Rattle.paseto_keys.specs.AnyKey.{KeyParts}
use Rattle.paseto_keys.specs.Id.{Identifies}
use Rattle.paseto_tasks.specs.declared.error.ProgramError.{ProgramError}
use Rattle.paseto_tasks.specs.declared.error.ProgramError.TheVariants.{File}
use Rattle.paseto_tasks.specs.declared.error.file.FileError.TheVariants.{Key}
use Rattle.paseto_tasks.specs.Output.{IsLineOf}

-- the line is that of the id of the key
abbrev pub HasId : KeyParts → List ℕ → Type 0
HasId key line = (id : String Global) × Identifies key (Ok id) × IsLineOf (string_bytes id) line

-- why the key has none
pub record HasNoId (key : KeyParts) (error : ProgramError) : Type 0 where
  pub source : PaserkError
  pub unidentified : Identifies key (Err source)
  pub no_memory : ¬ IsMemory source
  pub told : error ≡ File (Key source)

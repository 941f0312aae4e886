-- The command `public`.
use Rattle.std.specs.Prelude.{◌≡◌, ℕ, List, Ok, Err, String, string_bytes}
use Rattle.std.specs.Global.{Global}
use Rattle.rusty_paseto_paserk.specs.Error.{IsMemory}
use Rattle.rusty_paseto_paserk.specs.declared.error.PaserkError.{PaserkError}
use Rattle.paseto_keys.specs.AnyKey.{KeyParts, parts_of}
use Rattle.paseto_keys.specs.PublicHalf.{GivesHalf}
use Rattle.paseto_keys.specs.WrittenLine.{WritesLine}
use Rattle.paseto_keys.specs.declared.any_key.AnyKey.{AnyKey}
use Rattle.paseto_tasks.specs.declared.error.ProgramError.{ProgramError}
use Rattle.paseto_tasks.specs.declared.error.ProgramError.TheVariants.{File}
use Rattle.paseto_tasks.specs.declared.error.file.FileError.TheVariants.{Key}
use Rattle.paseto_tasks.specs.Output.{IsLineOf}

-- the line is that of the public half of a private key
pub record HasHalf (key : KeyParts) (line : List ℕ) : Type 0 where
  pub half : AnyKey
  pub text : String Global
  pub is_half : GivesHalf key (Ok half)
  pub is_text : WritesLine (parts_of half) (Ok text)
  pub line_is : IsLineOf (string_bytes text) line

-- why the key has none
pub record HasNoHalf (key : KeyParts) (error : ProgramError) : Type 0 where
  pub source : PaserkError
  pub no_half : GivesHalf key (Err source)
  pub no_memory : ¬ IsMemory source
  pub told : error ≡ File (Key source)

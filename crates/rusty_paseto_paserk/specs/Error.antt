-- What is said of errors.
use Rattle.std.specs.Prelude.{⊤, ℕ, List, codes}
use Rattle.rusty_paseto_paserk.specs.declared.header.PaserkVersion.TheVariants.{V1, V2, V3, V4}
use Rattle.rusty_paseto_paserk.specs.declared.header.PaserkType.TheVariants.{Local, Secret, Public}
use Rattle.rusty_paseto_paserk.specs.declared.error.PaserkError.{PaserkError}
use Rattle.rusty_paseto_paserk.specs.declared.error.PaserkError.TheVariants.{NoKey, OtherVersion, OtherType, InvalidKey, Memory}

-- memory was refused
abbrev pub IsMemory : PaserkError → Type 0
IsMemory (Memory _) = ⊤
IsMemory _ = ⊥

-- what each error says
abbrev pub error_text : PaserkError → List ℕ
error_text NoKey = codes "The text is no PASERK key"
error_text (OtherVersion V1) = codes "The key is one of version 1"
error_text (OtherVersion V2) = codes "The key is one of version 2"
error_text (OtherVersion V3) = codes "The key is one of version 3"
error_text (OtherVersion V4) = codes "The key is one of version 4"
error_text (OtherType Local) = codes "The key is one for local tokens"
error_text (OtherType Secret) = codes "The key is a private one, which signs"
error_text (OtherType Public) = codes "The key is a public one, which verifies"
error_text InvalidKey = codes "The key was not in the correct format"
error_text (Memory _) = codes "No memory was found"

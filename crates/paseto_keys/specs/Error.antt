-- What is said of errors.
use Rattle.std.specs.Prelude.{⊤, ℕ, List, codes}
use Rattle.rusty_paseto_parts.specs.Error.{error_text as token_error_text}
use Rattle.rusty_paseto_parts.specs.declared.error.PasetoError.{PasetoError}
use Rattle.rusty_paseto_parts.specs.declared.error.PasetoError.TheVariants.{Memory as NoTokenMemory}
use Rattle.rusty_paseto_generic.specs.declared.error.GenericParserError.{GenericParserError}
use Rattle.rusty_paseto_generic.specs.declared.error.GenericParserError.TheVariants.{CipherError, Memory as NoParserMemory}
use Rattle.rusty_paseto_paserk.specs.declared.header.PaserkType.{PaserkType}
use Rattle.rusty_paseto_paserk.specs.declared.header.PaserkType.TheVariants.{Local, Secret, Public}
use Rattle.paseto_keys.specs.declared.error.AdmitError.{AdmitError}
use Rattle.paseto_keys.specs.declared.error.AdmitError.TheVariants.{Key, Parser, Memory as NoMemory}
use Rattle.paseto_keys.specs.declared.error.KeyError.{KeyError}
use Rattle.paseto_keys.specs.declared.error.KeyError.TheVariants.{OtherType, NoAssertion, OtherVersion, OtherLength, Refused, Random, Memory}

-- memory was refused
abbrev pub IsMemory : KeyError → Type 0
IsMemory (Memory _) = ⊤
IsMemory _ = ⊥

-- a failed allocation is one, wherever it came
abbrev pub key_error_of : PasetoError → KeyError
key_error_of (NoTokenMemory source) = Memory source
key_error_of error = Refused error

-- what is said of the type of a key
abbrev pub type_text : PaserkType → List ℕ
type_text Local = codes "The key is one for local tokens"
type_text Secret = codes "The key is a private one, which signs"
type_text Public = codes "The key is a public one, which verifies"

-- what each error says
abbrev pub error_text : KeyError → List ℕ
error_text (OtherType kind) = type_text kind
error_text NoAssertion = codes "Keys of versions 1 and 2 take no implicit assertion"
error_text (OtherVersion _) = codes "Private keys of version 1 are not generated"
error_text (OtherLength _) = codes "The key takes another number of random bytes for a token"
error_text (Refused error) = token_error_text error
error_text Random = codes "The generator of random bytes failed"
error_text (Memory _) = codes "No memory was found"

-- ---- of claims

-- the error for that of a key that reads: a refused token is the parser's refusal
abbrev pub admit_error_of : KeyError → AdmitError
admit_error_of (Refused source) = Parser (CipherError source)
admit_error_of (Memory source) = NoMemory source
admit_error_of error = Key error

-- the error for that of a parser
abbrev pub admit_error_in : GenericParserError → AdmitError
admit_error_in (NoParserMemory source) = NoMemory source
admit_error_in error = Parser error

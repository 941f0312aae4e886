-- Why a token is not admitted.
use Rattle.std.proofs.Common.{◌≡◌, refl}
use Rattle.rusty_paseto_generic.specs.Error.Parser.{IsMemory}
use Rattle.rusty_paseto_generic.specs.declared.error.GenericParserError.{GenericParserError}
use Rattle.rusty_paseto_generic.specs.declared.error.GenericParserError.TheVariants as Parser
use Rattle.paseto_calls.specs.Refusal.{parser_refusal}
use Rattle.paseto_calls.specs.declared.refusal.Refusal.TheVariants.{Memory}

-- a failed allocation is refused as one
pub memory_of_parser : (error : GenericParserError) → IsMemory error → parser_refusal error ≡ Memory
memory_of_parser (Parser.Memory source) memory = refl
memory_of_parser error memory = absurd memory

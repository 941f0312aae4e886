use Rattle.std.proofs.Common.{rules}
use Rattle.rusty_paseto_parts.proofs.error.PasetoError.text.Goals as goal

pub returns-in-WrongHeader : goal.returns-in-WrongHeader
returns-in-WrongHeader c = search rules

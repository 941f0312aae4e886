use Rattle.std.proofs.Common.{rules}
use Rattle.rusty_paseto_parts.proofs.error.PasetoErrorFromAllocError.from.Goals as goal

pub returns : goal.returns
returns c = search rules

use Rattle.std.proofs.Common.{rules}
use Rattle.rusty_paseto_core.proofs.context.Context.five_pieces.Goals as goal

pub returns : goal.returns
returns c = search rules

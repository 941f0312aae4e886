use Rattle.std.proofs.Common.{rules}
use Rattle.rusty_paseto_primitives.proofs.chacha.block.quarter_round.Goals as goal

pub returns : goal.returns
returns c = search rules

use Rattle.std.proofs.Common.{rules}
use Rattle.rusty_paseto_primitives.proofs.hkdf.expansion_block.Goals as goal

pub returns : goal.returns
returns c = search rules

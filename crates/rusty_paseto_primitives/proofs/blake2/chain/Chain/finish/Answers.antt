use Rattle.std.proofs.Common.{rules}
use Rattle.rusty_paseto_primitives.proofs.blake2.chain.Chain.finish.Goals as goal

pub returns : goal.returns
returns c = search rules

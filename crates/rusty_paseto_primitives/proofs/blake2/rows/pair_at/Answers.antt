use Rattle.std.proofs.Common.{arith}
use Rattle.rusty_paseto_primitives.proofs.Blake2Pairs.{pair_of_block}
use Rattle.rusty_paseto_primitives.proofs.blake2.rows.pair_at.Goals as goal

pub returns : goal.returns
returns c = pair_of_block c.args.block.now c.args.k _ (omega arith) c.requires (λ i. let fits = c.type_inv.block i in omega arith)

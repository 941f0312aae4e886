use Rattle.std.proofs.Common.{arith}
use Rattle.rusty_paseto_primitives.proofs.Blake2Pairs.{pair_of_block}
use Rattle.paseto_argon2.proofs.block.register_at.Goals as goal

pub returns : goal.returns
returns c =
    pair_of_block c.args.bytes.now c.args.k _ (omega arith) c.requires (λ i. let fits = c.type_inv.bytes i in omega arith)

use Rattle.std.proofs.Common.{◌≡◌, ◌+◌, ◌-◌, ◌*◌, ◌≤◌, length, arith, refl}
use Rattle.rusty_paseto_primitives.proofs.Blake2Blocks.{IsTaken_more, block_of_part}
use Rattle.rusty_paseto_primitives.proofs.blake2.chain.Chain.take_blocks.Goals as goal

pub next-preserved : goal.next-preserved
next-preserved c = λ first input n taken part.
    let blocks = c.args.blocks.now in
    let k = c.next.k in
    let fits : 128 * k + 128 ≤ length blocks = omega arith in
    let width : 128 * k + 128 - 128 * k ≡ 128 = omega arith in
    IsTaken_more first _ input _ c.next.self (n + k) _ _ (c.next.invariant first input n taken part)
    (rw width (block_of_part input blocks n k fits part)) (omega arith) refl c.compress.ensures

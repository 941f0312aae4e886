use Rattle.std.proofs.Common.{◌-◌, ◌*◌, suc, length, add-one, arith}
use Rattle.rusty_paseto_primitives.specs.Pbkdf2.{block, derived_key}
use Rattle.rusty_paseto_primitives.proofs.JoinedBlocks.{filled_all, filled_more, filled_none}
use Rattle.rusty_paseto_primitives.proofs.Pbkdf2Iterations.{length-block}
use Rattle.rusty_paseto_primitives.proofs.pbkdf2.fill.Goals as goal

pub fill-init : goal.fill-init
fill-init c = λ password held. filled_none (block password c.args.salt.now c.args.iterations) c.args.key.now

pub fill-preserved : goal.fill-preserved
fill-preserved c = λ password held.
    let blocks = block password c.args.salt.now c.args.iterations in
    rw c.copy_from_slice.ensures.after (filled_more blocks c.fill.key c.block-block.result (length c.args.key.now) c.fill.i
    (c.min-end.result - 48 * c.fill.i) (λ n. length-block password c.args.salt.now c.args.iterations (suc n)) (c.fill.invariant password held)
    (omega arith) (rw add-one at (c.block-block.ensures password held)) (omega arith) (omega arith) (λ less. omega arith))

pub returns : goal.returns
unfolding derived_key
returns c = λ password held.
    filled_all (block password c.args.salt.now c.args.iterations) c.fill.key (length c.args.key.now) c.fill.i
    (c.fill.invariant password held) (omega arith)

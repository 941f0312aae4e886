use Rattle.rusty_paseto_primitives.specs.Blake2.Block.{column_step, round}
use Rattle.rusty_paseto_primitives.proofs.blake2.rows.round.Goals as goal

pub returns : goal.returns
unfolding round
returns c state words ev em =
    c.diagonal_step.ensures (column_step state words c.args.s) words (c.column_step.ensures state words ev em) em

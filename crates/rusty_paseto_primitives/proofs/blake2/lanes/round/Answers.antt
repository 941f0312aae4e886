use Rattle.rusty_paseto_primitives.specs.Blake2.Block.{column_step, round}
use Rattle.rusty_paseto_primitives.proofs.blake2.lanes.round.Goals as goal

pub returns : goal.returns
unfolding round
returns c states messages ev em =
    c.diagonal_step.ensures (λ j. column_step (states j) (messages j) c.args.s) messages (c.column_step.ensures states messages ev em) em

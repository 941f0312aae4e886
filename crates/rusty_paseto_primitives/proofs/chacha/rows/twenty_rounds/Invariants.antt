use Rattle.std.proofs.Common.{◌≡◌}
use Rattle.rusty_paseto_primitives.specs.ChaCha.Block.{double_rounds}
use Rattle.rusty_paseto_primitives.specs.ChaCha.Rows.{state_rows}
use Rattle.rusty_paseto_primitives.proofs.chacha.rows.twenty_rounds.Given as goal

abbrev pub invariant-rounds : goal.invariant-rounds
invariant-rounds l = l.x ≡ state_rows (double_rounds l._round l.fn.start)

use Rattle.std.proofs.Common.{◌≡◌, arith, add-one, ◌∙◌}
use Rattle.rusty_paseto_primitives.specs.ChaCha.Block.{column_round, double_rounds}
use Rattle.rusty_paseto_primitives.specs.ChaCha.Rows.{state_rows}
use Rattle.rusty_paseto_primitives.proofs.QuarterRounds.{state_words-double_rounds}
use Rattle.rusty_paseto_primitives.proofs.chacha.rows.twenty_rounds.Goals as goal

pub rounds-init : goal.rounds-init
unfolding double_rounds
rounds-init c = c.rows_of-x.ensures

pub rounds-preserved : goal.rounds-preserved
unfolding double_rounds
rounds-preserved c =
    let before = double_rounds c.rounds._round c.args.start in
    rw add-one (c.diagonal_round-x.ensures (column_round before) (c.column_round.ensures before c.rounds.invariant))

pub returns : goal.returns
returns c =
    let all : c.rounds._round ≡ 10 = omega arith in
    let done : c.rounds.x ≡ state_rows (double_rounds 10 c.args.start) = rw all at c.rounds.invariant in
    c.words_of.ensures (double_rounds 10 c.args.start) done ∙ state_words-double_rounds 9 c.args.start

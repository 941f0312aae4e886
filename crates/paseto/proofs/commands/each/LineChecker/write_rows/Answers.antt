use Rattle.std.proofs.Common.{refl}
use Rattle.std.proofs.lemmas.Result.{err_from_is_err_and}
use Rattle.paseto.proofs.Cuts.{dropped_smaller}
use Rattle.paseto.proofs.Progress.{failed, long_line, one_more, row_stops}
use Rattle.paseto.proofs.commands.each.LineChecker.write_rows.Goals as goal

pub returns-in_err-is_admitted-clause-stops : goal.returns-in_err-is_admitted-clause-stops
returns-in_err-is_admitted-clause-stops g c =
    let p = err_from_is_err_and c.from_residual.result c.from_residual.ensures.1 in
    rw (p.1, p.2) (row_stops _ _ _ _ _ _ _ _ c.lines.invariant (c.lines-test.ensures.line refl).0 _ _ (rw c.cut_line.ensures.line at c.in_err-is_admitted.ensures.stops))

pub lines-smaller : goal.lines-smaller
lines-smaller g c = rw c.cut_line.ensures.behind (dropped_smaller c.lines.rest.now (c.lines-test.ensures.line refl).0)

pub lines-preserved : goal.lines-preserved
lines-preserved g c =
    rw (c.cut_line.ensures.behind, c.both-all.ensures)
    (one_more _ _ _ _ _ _ _ _ c.lines.invariant (c.lines-test.ensures.line refl).0 (c.lines-test.ensures.line refl).1 _ _
    (rw c.cut_line.ensures.line at c.in_ok-is_admitted.ensures.written))

pub returns-then-rest-self-clause-stops : goal.returns-then-rest-self-clause-stops
returns-then-rest-self-clause-stops g c = long_line _ _ _ _ _ _ _ _ c.lines.invariant (c.lines-test.ensures.none refl).0 c.if-rest-self.true

pub returns-in_err-pending-clause-stops : goal.returns-in_err-pending-clause-stops
returns-in_err-pending-clause-stops g c =
    let p = err_from_is_err_and c.from_residual-in_err-pending.result c.from_residual-in_err-pending.ensures.1 in
    rw (p.1, p.2) (failed _ _ _ _ _ _ _ _ c.lines.invariant _ (tt, tt))

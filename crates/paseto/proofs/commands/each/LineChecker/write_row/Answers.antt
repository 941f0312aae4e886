use Rattle.std.proofs.Common.{refl, string_bytes}
use Rattle.std.proofs.lemmas.Result.{err_from_is_err_and}
use Rattle.paseto.specs.Each.StopsRow.{no_row, long_row, cut_row}
use Rattle.paseto.proofs.commands.each.LineChecker.write_row.Goals as goal

pub returns-then-line-self-clause-stops : goal.returns-then-line-self-clause-stops
returns-then-line-self-clause-stops g c = long_row refl c.if-line-self.true

pub returns-in_err-row-clause-stops : goal.returns-in_err-row-clause-stops
returns-in_err-row-clause-stops g c =
    let p = err_from_is_err_and c.from_residual.result c.from_residual.ensures.1 in
    rw (p.1, p.2) (no_row c.in_err-row.field-0.0 refl c.in_err-row.ensures.fails)

pub returns-in_err-write_whole-clause-stops : goal.returns-in_err-write_whole-clause-stops
returns-in_err-write_whole-clause-stops g c =
    let p = err_from_is_err_and c.from_residual-in_err-write_whole.result c.from_residual-in_err-write_whole.ensures.1 in
    rw (p.1, p.2, c.in_err-write_whole.ensures.failed)
    (cut_row (string_bytes c.in_ok-row.row.text) c.in_err-write_whole.ensures.beginning.0 c.in_ok-row.row.is_admitted c.if-line-self.false c.in_ok-row.ensures.row
    (rw (c.as_bytes.ensures.value, c.as_str.ensures.value) at c.in_err-write_whole.ensures.beginning.1) c.in_err-write_whole.ensures.beginning.2)

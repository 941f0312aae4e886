use Rattle.std.proofs.lemmas.Result.{err_from_is_err_and}
use Rattle.paseto_tasks.proofs.input.read_short.Goals as goal

-- a read that failed returned an error
pub returns-in_err-count-clause-plain : goal.returns-in_err-count-clause-plain
returns-in_err-count-clause-plain g c =
    let p = err_from_is_err_and c.from_residual.result c.from_residual.ensures.1 in
    rw (p.1, p.2) (tt, c.in_err-count.field-0.0)

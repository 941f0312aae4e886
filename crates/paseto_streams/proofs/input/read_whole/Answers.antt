use Rattle.std.proofs.lemmas.Result.{err_from_is_err_and}
use Rattle.paseto_streams.proofs.input.read_whole.Goals as goal

-- a read that failed returned an error
pub returns-in_err-count-clause-failed : goal.returns-in_err-count-clause-failed
returns-in_err-count-clause-failed g c =
    let p = err_from_is_err_and c.from_residual.result c.from_residual.ensures.1 in
    rw (p.1, p.2) c.in_err-count.field-0.0

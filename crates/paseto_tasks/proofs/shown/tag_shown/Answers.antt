use Rattle.std.proofs.lemmas.Result.{err_from_is_err_and}
use Rattle.rusty_paseto_core.specs.Local.TagCollision.{Opens}
use Rattle.paseto_tasks.proofs.Showing.{alone}
use Rattle.paseto_tasks.proofs.shown.tag_shown.Goals as goal

pub returns-clause-ok : goal.returns-clause-ok
returns-clause-ok g c = record { found = c.in-Some.found; is_forgery = rw c.in-Some.is at c.in_ok-found.ensures.found; lines_are = c.in_ok-tag_text-in-Some.ensures }

pub returns-in_err-found-clause-err : goal.returns-in_err-found-clause-err
returns-in_err-found-clause-err g c = λ opens.
    let p = err_from_is_err_and c.from_residual.result c.from_residual.ensures.1 in
    rw (p.1, p.2) (c.in_err-found.ensures.complete (alone (Opens g.V.LocalSuite.design) opens))

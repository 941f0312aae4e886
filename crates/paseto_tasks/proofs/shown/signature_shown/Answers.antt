use Rattle.std.proofs.lemmas.Result.{err_from_is_err_and}
use Rattle.paseto_tasks.proofs.Showing.{asked_is, signature_alone}
use Rattle.paseto_tasks.proofs.shown.signature_shown.Goals as goal

pub returns-clause-ok : goal.returns-clause-ok
returns-clause-ok g c =
    let asked = asked_is g.V.PublicSuite.public_design c.args.assertion c.requires in
    let found = rw c.in-Some.is at c.in_ok-found.ensures.found in
    record { found = c.in-Some.found; is_forgery = rw asked at found; lines_are = c.in_ok-signature_text-in-Some.ensures }

pub returns-in_err-found-clause-err : goal.returns-in_err-found-clause-err
returns-in_err-found-clause-err g c = λ verifies.
    let p = err_from_is_err_and c.from_residual.result c.from_residual.ensures.1 in
    let asked = asked_is g.V.PublicSuite.public_design c.args.assertion c.requires in
    rw (p.1, p.2) (c.in_err-found.ensures.complete (signature_alone g.V.Verifies.valid g.V.Verifies.refused g.V.PublicSuite.public_design (rw (← asked) at verifies)))

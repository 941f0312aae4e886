use Rattle.std.proofs.Common.{inr}
use Rattle.std.proofs.lemmas.Int.{to_z-of_z}
use Rattle.std.proofs.lemmas.Result.{err_from_is_err_and}
use Rattle.paseto_calls.proofs.issue.times_at.Goals as goal

pub returns-in_err-issue : goal.returns-in_err-issue
returns-in_err-issue c =
    let p = err_from_is_err_and c.from_residual.result c.from_residual.ensures.1 in
    let none = rw (to_z-of_z _ _ c.ranges.now) at c.in_err-issue.ensures in
    rw (p.1, p.2) (inr (none.0, λ moments. none.1 moments.issue))

pub returns-in_err-end : goal.returns-in_err-end
returns-in_err-end c =
    let p = err_from_is_err_and c.from_residual-in_err-end.result c.from_residual-in_err-end.ensures.1 in
    let issued = rw (to_z-of_z _ _ c.ranges.now) at c.in_ok-issue.ensures in
    let none = rw issued.0 at c.in_err-end.ensures in
    rw (p.1, p.2) (inr (none.0, λ moments. none.1 moments.end))

pub returns-in_err-begin : goal.returns-in_err-begin
returns-in_err-begin c =
    let p = err_from_is_err_and c.from_residual-in_err-begin.result c.from_residual-in_err-begin.ensures.1 in
    let issued = rw (to_z-of_z _ _ c.ranges.now) at c.in_ok-issue.ensures in
    let none = rw issued.0 at c.in_err-begin.ensures in
    rw (p.1, p.2) (inr (none.0, λ moments. none.1 moments.begin))

pub returns : goal.returns
returns c =
    let issued = rw (to_z-of_z _ _ c.ranges.now) at c.in_ok-issue.ensures in (
      record { end = rw issued.0 at c.in_ok-end.ensures.1; issue = issued.1; begin = rw issued.0 at c.in_ok-begin.ensures.1 },
      rw (c.in_ok-end.ensures.0, c.in_ok-begin.ensures.0, issued.0) at c.in_ok-times_of.ensures,
    )

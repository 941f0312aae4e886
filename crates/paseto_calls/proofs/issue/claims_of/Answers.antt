use Rattle.std.proofs.Common.{inl}
use Rattle.std.proofs.lemmas.Int.{to_z-of_z}
use Rattle.std.proofs.lemmas.Result.{err_from_is_err_and}
use Rattle.serde_json.specs.View.{members_view}
use Rattle.paseto_calls.proofs.IssueExits.{member_refuses, put_refuses, times_extend, times_put, times_refuse}
use Rattle.paseto_calls.proofs.issue.claims_of.Goals as goal

pub returns-in_err-times : goal.returns-in_err-times
returns-in_err-times c =
    let p = err_from_is_err_and c.from_residual.result c.from_residual.ensures.1 in
    rw (p.1, p.2) (times_refuse _ _ _ (rw (to_z-of_z _ _ c.ranges.now) at c.in_err-times.ensures))

pub returns-in_err-put_claims : goal.returns-in_err-put_claims
returns-in_err-put_claims c =
    let p = err_from_is_err_and c.from_residual-in_err-put_claims.result c.from_residual-in_err-put_claims.ensures.1 in
    let times = rw (to_z-of_z _ _ c.ranges.now) at c.in_ok-times.ensures in
    rw (p.1, p.2) (inl (put_refuses _ _ _ (times_extend _ _ _ _ times.1) (rw c.new-builder.ensures at c.in_err-put_claims.ensures.fault)))

pub returns-in_err-set_members : goal.returns-in_err-set_members
returns-in_err-set_members c =
    let p = err_from_is_err_and c.from_residual-in_err-set_members.result c.from_residual-in_err-set_members.ensures.1 in
    let times = rw (to_z-of_z _ _ c.ranges.now) at c.in_ok-times.ensures in
    rw (p.1, p.2) (member_refuses _ _ _ times.0 c.in_err-set_members.ensures.err)

pub returns : goal.returns
returns c =
    let times = rw (to_z-of_z _ _ c.ranges.now) at c.in_ok-times.ensures in
    let same = times_put _ _ _ _ _ times.1 (rw c.new-builder.ensures at c.in_ok-put_claims.ensures.ok) in (
      times.0,
      record { times = members_view c.in_ok-times.times.entries; are_times = times.1; are_set = rw same c.in_ok-set_members.ensures.claims },
    )

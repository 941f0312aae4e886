use Rattle.std.proofs.Common.{◌∙◌, ap}
use Rattle.std.proofs.lemmas.Int.{to_z-of_z}
use Rattle.std.proofs.lemmas.Result.{err_from_is_err_and}
use Rattle.serde_json.specs.View.{items_view, members_view}
use Rattle.rusty_paseto_generic.specs.Parsers.Held.{rules_of}
use Rattle.paseto_calls.proofs.AdmitExits.{begin_unready, member_unready, name_unready}
use Rattle.paseto_calls.proofs.ParseLemmas.{all_expected-same, all_required-same}
use Rattle.paseto_calls.proofs.admit.ready.Goals as goal

pub returns-in_err-begin-clause-err : goal.returns-in_err-begin-clause-err
returns-in_err-begin-clause-err g c =
    let p = err_from_is_err_and c.from_residual.result c.from_residual.ensures.1 in
    rw (p.1, p.2) (begin_unready _ _ _ _ (rw (to_z-of_z _ _ c.ranges.now) at c.in_err-begin.ensures.err))

pub returns-in_err-expect_members-clause-err : goal.returns-in_err-expect_members-clause-err
returns-in_err-expect_members-clause-err g c =
    let p = err_from_is_err_and c.from_residual-in_err-expect_members.result c.from_residual-in_err-expect_members.ensures.1 in
    let begun = rw (to_z-of_z _ _ c.ranges.now) at c.in_ok-begin.ensures.moment in
    rw (p.1, p.2) (member_unready _ _ _ _ begun.0 c.in_err-expect_members.ensures.err)

pub returns-in_err-require_names-clause-err : goal.returns-in_err-require_names-clause-err
returns-in_err-require_names-clause-err g c =
    let p = err_from_is_err_and c.from_residual-in_err-require_names.result c.from_residual-in_err-require_names.ensures.1 in
    let begun = rw (to_z-of_z _ _ c.ranges.now) at c.in_ok-begin.ensures.moment in
    rw (p.1, p.2) (name_unready _ _ _ _ begun.0 c.in_ok-expect_members.ensures.whole c.in_err-require_names.ensures.err)

pub returns-clause-ok : goal.returns-clause-ok
returns-clause-ok g c =
    let begun = rw (to_z-of_z _ _ c.ranges.now) at c.in_ok-begin.ensures.moment in
    let members = c.in_ok-expect_members.ensures in
    let names = c.in_ok-require_names.ensures in
    let set = c.demand.ensures in (
      begun.0,
      members.whole,
      names.texts,
      ap (λ m. m.nanosecond) (set.moment ∙ names.moment ∙ members.moment) ∙ begun.1,
      λ key. ap (λ checks. rules_of checks key) set.checks ∙ names.rules key
          ∙ all_required-same (items_view c.args.names.items) _ _
          (λ other. members.rules other ∙ all_expected-same (members_view c.args.members.entries) _ _ c.in_ok-begin.ensures.rules other) key,
      set.leeway,
      set.longest,
      set.footer,
      set.assertion,
    )

use Rattle.std.proofs.Common.{◌∙◌, inl, inr, ap}
use Rattle.std.proofs.lemmas.Int.{to_z-of_z}
use Rattle.std.proofs.lemmas.Result.{err_from_is_err_and}
use Rattle.serde_json.specs.View.{items_view, members_view}
use Rattle.rusty_paseto_core.specs.Context.{assertion_of, footer_of}
use Rattle.std.proofs.Common.{is_some}
use Rattle.paseto_calls.specs.Admit.{demanded}
use Rattle.paseto_calls.proofs.AdmitExits.{names_unprepared, object_unprepared, ready_unprepared, then_unprepared}
use Rattle.paseto_calls.proofs.admit.prepare.Goals as goal

pub returns-in_err-expected-clause-err : goal.returns-in_err-expected-clause-err
returns-in_err-expected-clause-err g c =
    let p = err_from_is_err_and c.from_residual.result c.from_residual.ensures.1 in
    rw (p.1, p.2) (inr (inl (c.in_err-expected.ensures.0, λ texts. c.in_err-expected.ensures.1 texts.0)))

pub returns-in_err-required-clause-err : goal.returns-in_err-required-clause-err
returns-in_err-required-clause-err g c =
    let p = err_from_is_err_and c.from_residual-in_err-required.result c.from_residual-in_err-required.ensures.1 in
    rw (p.1, p.2) (inr (inl (c.in_err-required.ensures.0, λ texts. c.in_err-required.ensures.1 texts.1.0)))

pub returns-in_err-texts-clause-err : goal.returns-in_err-texts-clause-err
returns-in_err-texts-clause-err g c =
    let p = err_from_is_err_and c.from_residual-in_err-texts.result c.from_residual-in_err-texts.ensures.1 in
    rw (p.1, p.2) (inr (inl (c.in_err-texts.ensures.0, λ texts. c.in_err-texts.ensures.1 texts.1.1)))

pub returns-in_err-members-clause-err : goal.returns-in_err-members-clause-err
returns-in_err-members-clause-err g c =
    let p = err_from_is_err_and c.from_residual-in_err-members.result c.from_residual-in_err-members.ensures.1 in
    rw (p.1, p.2) (then_unprepared c.args.expected.now c.args.now (demanded c.args.options.now) c.args.token.now c.args.footer.now c.args.assertion.now _
    (c.in_ok-expected.ensures.1, (c.in_ok-required.ensures.1, c.in_ok-texts.ensures.5))
    (object_unprepared c.args.expected.now c.args.now (demanded c.args.options.now) _ (rw c.in_ok-expected.ensures.0 at c.in_err-members.ensures)))

pub returns-in_err-names-clause-err : goal.returns-in_err-names-clause-err
returns-in_err-names-clause-err g c =
    let p = err_from_is_err_and c.from_residual-in_err-names.result c.from_residual-in_err-names.ensures.1 in
    rw (p.1, p.2) (then_unprepared c.args.expected.now c.args.now (demanded c.args.options.now) c.args.token.now c.args.footer.now c.args.assertion.now _
    (c.in_ok-expected.ensures.1, (c.in_ok-required.ensures.1, c.in_ok-texts.ensures.5))
    (names_unprepared c.args.expected.now c.args.now (demanded c.args.options.now) (members_view c.in_ok-members.members.entries)
    (rw c.in_ok-expected.ensures.0 at c.in_ok-members.ensures) _ (rw c.in_ok-required.ensures.0 at c.in_err-names.ensures)))

pub returns-in_err-ready-clause-err : goal.returns-in_err-ready-clause-err
returns-in_err-ready-clause-err g c =
    let p = err_from_is_err_and c.from_residual-in_err-ready.result c.from_residual-in_err-ready.ensures.1 in
    rw (p.1, p.2) (then_unprepared c.args.expected.now c.args.now (demanded c.args.options.now) c.args.token.now c.args.footer.now c.args.assertion.now _
    (c.in_ok-expected.ensures.1, (c.in_ok-required.ensures.1, c.in_ok-texts.ensures.5))
    (ready_unprepared c.args.expected.now c.args.now (demanded c.args.options.now) (members_view c.in_ok-members.members.entries)
    (rw c.in_ok-expected.ensures.0 at c.in_ok-members.ensures) (items_view c.in_ok-names.names.items)
    (rw c.in_ok-required.ensures.0 at c.in_ok-names.ensures) _ (rw (to_z-of_z _ _ c.ranges.now) at c.in_err-ready.ensures.err)))

pub returns-clause-ok : goal.returns-clause-ok
returns-clause-ok g c =
    let lent = c.in_ok-texts.ensures in
    let ready = rw (to_z-of_z _ _ c.ranges.now) at c.in_ok-ready.ensures.ok in (
      lent.0,
      record {
        texts = (c.in_ok-expected.ensures.1, (c.in_ok-required.ensures.1, lent.5));
        members = members_view c.in_ok-members.members.entries;
        names = items_view c.in_ok-names.names.items;
        is_expected = record {
          is_object = rw c.in_ok-expected.ensures.0 at c.in_ok-members.ensures;
          is_array = rw c.in_ok-required.ensures.0 at c.in_ok-names.ensures;
          is_moment = ready.3;
          whole = ready.1;
          are_names = ready.2;
        };
        rules = ready.4;
        leeway_is = ready.5;
        longest_is = ready.6;
        footer_is = ap footer_of ready.7 ∙ lent.1;
        has_footer = ap is_some ready.7 ∙ lent.2;
        assertion_is = ap assertion_of ready.8 ∙ lent.3;
        has_assertion = ap is_some ready.8 ∙ lent.4;
      },
    )

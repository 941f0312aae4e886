use Rattle.std.proofs.Common.{◌∙◌, string_bytes}
use Rattle.std.proofs.lemmas.Result.{err_from_is_err_and}
use Rattle.serde_json.specs.View.{members_view, view}
use Rattle.rusty_paseto_generic.specs.Parsers.Held.{rules_of}
use Rattle.paseto_calls.proofs.ParseLemmas.{all_expected-same, member_refuses, odd_later}
use Rattle.paseto_calls.proofs.admit.expect_members.Goals as goal

pub returns-in_err-put_expected-clause-err : goal.returns-in_err-put_expected-clause-err
returns-in_err-put_expected-clause-err g c =
    let p = err_from_is_err_and c.from_residual.result c.from_residual.ensures.1 in
    rw (p.1, p.2)
    (member_refuses c.in_err-put_expected.field-0.0 (string_bytes c.in-Some.key) (view c.in-Some.value) (members_view c.next.new.self)
    (members_view c.args.members.entries) (rw c.in-Some.ensures.steps at c.loop-key.invariant.whole)
    c.in_err-put_expected.ensures.fault)

pub loop-key-preserved : goal.loop-key-preserved
loop-key-preserved g c =
    let key = string_bytes c.in-Some.key in
    let value = view c.in-Some.value in
    let rest = members_view c.next.new.self in
    let after = c.put_expected.new.self in
    let invariant = c.loop-key.invariant in
    record {
      rules = λ name. all_expected-same rest (rules_of after.checks) _ c.in_ok-put_expected.ensures.ok name ∙ (rw c.in-Some.ensures.steps at invariant.rules) name;
      whole = (rw c.in-Some.ensures.steps at invariant.whole) ∙ odd_later key value rest c.in_ok-put_expected.ensures.whole;
      moment = c.in_ok-put_expected.ensures.moment ∙ invariant.moment;
      footer = c.in_ok-put_expected.ensures.rest.0 ∙ invariant.footer;
      assertion = c.in_ok-put_expected.ensures.rest.1 ∙ invariant.assertion;
      leeway = c.in_ok-put_expected.ensures.rest.2 ∙ invariant.leeway;
      longest = c.in_ok-put_expected.ensures.rest.3 ∙ invariant.longest;
    }

pub returns-clause-rules : goal.returns-clause-rules
returns-clause-rules g c = rw c.in-None.ensures.steps.0 at c.loop-key.invariant.rules

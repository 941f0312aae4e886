use Rattle.std.proofs.Common.{◌≡◌, ◌∙◌, [], subst, sym}
use Rattle.std.proofs.lemmas.List.{nil_from_length}
use Rattle.std.specs.Vec.Iter.{into_iter_items}
use Rattle.std.proofs.lemmas.Result.{err_from_is_err_and}
use Rattle.serde_json.specs.View.{items_view}
use Rattle.rusty_paseto_generic.specs.Parsers.Held.{rules_of}
use Rattle.rusty_paseto_generic.specs.Parsers.Rules.{AreSame}
use Rattle.paseto_calls.specs.Parse.{all_required}
use Rattle.paseto_calls.proofs.ParseLemmas.{all_required-same, memory_refuses, name_is_text, name_required}
use Rattle.paseto_calls.proofs.admit.require_names.Goals as goal

pub returns-in_err-put_required-clause-err : goal.returns-in_err-put_required-clause-err
returns-in_err-put_required-clause-err g c =
    let p = err_from_is_err_and c.from_residual.result c.from_residual.ensures.1 in
    rw (p.1, p.2) (memory_refuses c.in_err-put_required.field-0.0 c.in_err-put_required.ensures.fault (items_view c.args.names.items))

pub loop-name-preserved : goal.loop-name-preserved
loop-name-preserved g c =
    let rest = into_iter_items c.next.new.self in
    let text = c.in-String.text in
    let before = c.loop-name.parser in
    let after = c.put_required.new.self in
    let put = c.in_ok-put_required.ensures in
    let invariant = c.loop-name.invariant in
    let rules = rw c.in-Some.ensures.steps.0 at invariant.rules in
    let texts = rw c.in-Some.ensures.steps.0 at invariant.texts in
    let added = rw c.as_str.ensures.value at put.ok in
    record {
      rules = λ key. all_required-same (items_view rest) (rules_of after.checks) _ added key
          ∙ (name_required c.in-Some.name text rest (rules_of before.checks) c.in-String.is key ∙ rules key);
      texts = texts ∙ name_is_text c.in-Some.name text rest c.in-String.is;
      moment = put.moment ∙ invariant.moment;
      footer = put.rest.0 ∙ invariant.footer;
      assertion = put.rest.1 ∙ invariant.assertion;
      leeway = put.rest.2 ∙ invariant.leeway;
      longest = put.rest.3 ∙ invariant.longest;
    }

pub returns-clause-rules : goal.returns-clause-rules
returns-clause-rules g c =
    let none : into_iter_items c.loop-name.name-iterator ≡ [] = nil_from_length _ (sym c.loop-name.name-iterator.rest.ok.0 ∙ c.in-None.ensures.steps.0) in
    subst (λ left. AreSame (all_required (items_view left) (rules_of c.loop-name.parser.checks))
    (all_required (items_view c.args.names.items) (rules_of c.args.parser.now.checks))) none c.loop-name.invariant.rules

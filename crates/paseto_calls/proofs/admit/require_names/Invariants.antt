use Rattle.std.proofs.Common.{◌≡◌}
use Rattle.std.specs.Vec.Iter.{into_iter_items}
use Rattle.serde_json.specs.View.{items_view}
use Rattle.rusty_paseto_generic.specs.Parsers.Held.{rules_of}
use Rattle.rusty_paseto_generic.specs.Parsers.Rules.{AreSame}
use Rattle.paseto_calls.specs.Parse.{all_required, are_texts}
use Rattle.paseto_calls.proofs.admit.require_names.Given as goal

abbrev pub invariant-loop-name : goal.invariant-loop-name
invariant-loop-name g l = record {
  rules : AreSame (all_required (items_view (into_iter_items l.name-iterator)) (rules_of l.parser.checks))
      (all_required (items_view l.fn.names.items) (rules_of l.fn.parser.checks));
  texts : are_texts (items_view l.fn.names.items) ≡ are_texts (items_view (into_iter_items l.name-iterator));
  moment : l.parser.moment ≡ l.fn.parser.moment;
  leeway : l.parser.leeway ≡ l.fn.parser.leeway;
  footer : l.parser.footer ≡ l.fn.parser.footer;
  longest : l.parser.longest ≡ l.fn.parser.longest;
  assertion : l.parser.implicit_assertion ≡ l.fn.parser.implicit_assertion;
}

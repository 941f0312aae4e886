use Rattle.std.proofs.Common.{◌≡◌}
use Rattle.serde_json.specs.View.{members_view}
use Rattle.rusty_paseto_claims.specs.Whole.{first_odd}
use Rattle.rusty_paseto_generic.specs.Parsers.Held.{rules_of}
use Rattle.rusty_paseto_generic.specs.Parsers.Rules.{AreSame}
use Rattle.paseto_calls.specs.Parse.{all_expected}
use Rattle.paseto_calls.proofs.admit.expect_members.Given as goal

abbrev pub invariant-loop-key : goal.invariant-loop-key
invariant-loop-key g l = record {
  rules : AreSame (all_expected (members_view l.key-iterator) (rules_of l.parser.checks))
      (all_expected (members_view l.fn.members.entries) (rules_of l.fn.parser.checks));
  whole : first_odd (members_view l.fn.members.entries) ≡ first_odd (members_view l.key-iterator);
  moment : l.parser.moment ≡ l.fn.parser.moment;
  leeway : l.parser.leeway ≡ l.fn.parser.leeway;
  footer : l.parser.footer ≡ l.fn.parser.footer;
  longest : l.parser.longest ≡ l.fn.parser.longest;
  assertion : l.parser.implicit_assertion ≡ l.fn.parser.implicit_assertion;
}

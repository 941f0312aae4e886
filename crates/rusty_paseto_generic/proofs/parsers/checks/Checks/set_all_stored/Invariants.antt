use Rattle.std.specs.BTreeMap.{get_by_text}
use Rattle.rusty_paseto_generic.specs.Parsers.Held.{HasEach, rules_of}
use Rattle.serde_json.specs.View.{members_view}
use Rattle.rusty_paseto_generic.specs.Parsers.Rules.{AreSame, all_stored}
use Rattle.rusty_paseto_generic.proofs.parsers.checks.Checks.set_all_stored.Given as goal

abbrev pub invariant-loop-key : goal.invariant-loop-key
invariant-loop-key g l = record {
  each : HasEach (get_by_text l.self.entries) l.key-iterator;
  rules : AreSame (all_stored (members_view l.key-iterator) (rules_of l.self)) (all_stored (members_view l.fn.more.entries) (rules_of l.fn.self));
}

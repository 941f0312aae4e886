use Rattle.std.specs.BTreeMap.{get_by_text}
use Rattle.rusty_paseto_generic.specs.Parsers.Held.{HasEach, checkers_of, rules_of}
use Rattle.rusty_paseto_generic.specs.Parsers.Rules.{AreSame, all_with_checkers}
use Rattle.rusty_paseto_generic.proofs.parsers.checks.Checks.set_all_checkers.Given as goal

abbrev pub invariant-loop-key : goal.invariant-loop-key
invariant-loop-key g l = record {
  each : HasEach (get_by_text l.self.entries) l.key-iterator;
  rules : AreSame (all_with_checkers (checkers_of l.key-iterator) (rules_of l.self)) (all_with_checkers (checkers_of l.fn.more.entries) (rules_of l.fn.self));
}

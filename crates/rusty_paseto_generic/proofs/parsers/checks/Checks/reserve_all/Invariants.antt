use Rattle.std.proofs.Common.{ℕ, List, Option}
use Rattle.std.specs.BTreeMap.{get_by_text}
use Rattle.rusty_paseto_generic.specs.Parsers.Held.{HasEach, HasMore, rules_of}
use Rattle.rusty_paseto_generic.specs.Parsers.Rules.{AreSame}
use Rattle.rusty_paseto_generic.specs.declared.parsers.checks.Check.{Check}
use Rattle.rusty_paseto_generic.proofs.parsers.checks.Checks.reserve_all.Given as goal

abbrev pub invariant-loop-key : goal.invariant-loop-key
invariant-loop-key g l = record {
  rules : AreSame (rules_of l.self) (rules_of l.fn.self);
  each : (found : List ℕ → Option (Check g.row.B.Denot)) → HasMore found (get_by_text l.self.entries)
      → HasEach found l.key-iterator → HasEach found l.more.entries;
}

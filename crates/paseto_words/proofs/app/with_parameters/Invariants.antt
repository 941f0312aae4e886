use Rattle.std.proofs.Common.{map, take}
use Rattle.clap.specs.Words.{App}
use Rattle.paseto_words.specs.App.{IsFor, rule_for, with_rules}
use Rattle.paseto_words.proofs.app.with_parameters.Given as goal

abbrev pub invariant-loop-parameter : goal.invariant-loop-parameter
invariant-loop-parameter l = (a : App) → IsFor a l.fn.command
    → IsFor (with_rules a (map rule_for (take l.parameter-index l.parameters))) l.command

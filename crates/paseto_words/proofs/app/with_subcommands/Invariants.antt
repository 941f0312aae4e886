use Rattle.std.proofs.Common.{map, take}
use Rattle.clap.specs.Words.{App}
use Rattle.paseto_words.specs.App.{IsFor, app_for, with_subcommands}
use Rattle.paseto_words.proofs.app.with_subcommands.Given as goal

abbrev pub invariant-loop-subcommand : goal.invariant-loop-subcommand
invariant-loop-subcommand l = (a : App) → IsFor a l.fn.command
    → IsFor (with_subcommands a (map app_for (take l.subcommand-index l.subcommands))) l.command

use Rattle.paseto_words.proofs.Adding.{has_all, has_next}
use Rattle.paseto_words.proofs.app.with_subcommands.Goals as goal

pub loop-subcommand-preserved : goal.loop-subcommand-preserved
loop-subcommand-preserved c a is =
    has_next a c.args.subcommands.now c.loop-subcommand.subcommand-index _ _ _ _ c.loop-subcommand-test.true
    (c.loop-subcommand.invariant a is) c.in_ok-command_of.ensures c.in_ok-command.ensures

pub returns : goal.returns
returns c a is = has_all a c.args.subcommands.now _ _ c.loop-subcommand-test.false (c.loop-subcommand.invariant a is)

use Rattle.paseto_words.proofs.Adding.{takes_all, takes_next, takes_none}
use Rattle.paseto_words.proofs.app.with_parameters.Goals as goal

pub loop-parameter-init : goal.loop-parameter-init
loop-parameter-init c a is = takes_none a c.args.command is

pub loop-parameter-preserved : goal.loop-parameter-preserved
loop-parameter-preserved c a is =
    takes_next a c.args.parameters.now c.loop-parameter.parameter-index _ _ _ _ c.loop-parameter-test.true
    (c.loop-parameter.invariant a is) c.arg_of.ensures.rule c.arg_of.ensures.local c.in_ok-command.ensures

pub returns : goal.returns
returns c a is = takes_all a c.args.parameters.now _ _ c.loop-parameter-test.false (c.loop-parameter.invariant a is)

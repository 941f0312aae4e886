use Rattle.paseto.proofs.SameWords.{says_after, says_none}
use Rattle.paseto.proofs.commands.times.moment_of.Goals as goal

pub returns-in-Some : goal.returns-in-Some
returns-in-Some c =
    says_after c.args.word.now c.args.now _ c.in-Some.seconds c.moment_after.result c.in-Err.ensures.value c.in-Some.ensures c.moment_after.ensures

pub returns-in-None : goal.returns-in-None
returns-in-None c = says_none c.args.word.now c.args.now _ c.in-Err.ensures.value c.in-None.ensures

use Rattle.paseto.proofs.commands.times.between.Goals as goal

pub returns : goal.returns
returns c = rw c.seconds_between.ensures at c.length_of.ensures

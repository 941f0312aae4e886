use Rattle.std.proofs.Common.{refl, true, false}
use Rattle.paseto.specs.Each.EndsEach.{ends, stopped}
use Rattle.paseto.proofs.commands.run.run_each.Goals as goal

pub returns-then-all : goal.returns-then-all
returns-then-all g c = record {
  options = c.check_options.result;
  are_options = c.check_options.ensures;
  names = record { key = c.args.name; input = c.name_of.result };
  key_is = refl;
  input_is = c.name_of.ensures;
  ends = ends true (rw (c.deref.ensures.value, c.if-all.true) at c.in-Ok.ensures.all) refl refl;
}

pub returns-else-all : goal.returns-else-all
returns-else-all g c = record {
  options = c.check_options.result;
  are_options = c.check_options.ensures;
  names = record { key = c.args.name; input = c.name_of.result };
  key_is = refl;
  input_is = c.name_of.ensures;
  ends = ends false (rw (c.deref.ensures.value, c.if-all.false) at c.in-Ok.ensures.all) refl refl;
}

pub returns-in-Err : goal.returns-in-Err
returns-in-Err g c = record {
  options = c.check_options.result;
  are_options = c.check_options.ensures;
  names = record { key = c.args.name; input = c.name_of.result };
  key_is = refl;
  input_is = c.name_of.ensures;
  ends = stopped c.in-Err.error c.say.ensures.0 (rw c.deref.ensures.value at c.in-Err.ensures.stops) c.status.ensures c.say.ensures.1 c.say.ensures.2;
}

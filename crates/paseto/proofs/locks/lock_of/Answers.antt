use Rattle.std.proofs.Common.{refl}
use Rattle.paseto.proofs.locks.lock_of.Goals as goal

pub returns-in-None-clause-refused : goal.returns-in-None-clause-refused
returns-in-None-clause-refused c = (c.in-None.ensures.none refl, c.unlocked.ensures)

use Rattle.std.proofs.Common.{refl}
use Rattle.paseto_key_files.proofs.line.begins_as.Goals as goal

pub returns-in-None-clause-none : goal.returns-in-None-clause-none
returns-in-None-clause-none c = (c.in-None.ensures.none refl, refl)

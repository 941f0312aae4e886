use Rattle.std.proofs.Common.{inl, refl}
use Rattle.paseto_key_files.proofs.sealing.seal.Goals as goal

pub returns-in-None-clause-err : goal.returns-in-None-clause-err
returns-in-None-clause-err g c = inl (c.in-None.ensures.none refl, refl)

use Rattle.paseto_key_files.proofs.sealing.seal_in.Goals as goal

pub returns-in-V2-clause-ok : goal.returns-in-V2-clause-ok
returns-in-V2-clause-ok g c = rw c.in-V2.is c.seal_as.ensures.ok

pub returns-in-V3-clause-ok : goal.returns-in-V3-clause-ok
returns-in-V3-clause-ok g c = rw c.in-V3.is c.seal_as-in-V3.ensures.ok

pub returns-in-V4-clause-ok : goal.returns-in-V4-clause-ok
returns-in-V4-clause-ok g c = rw c.in-V4.is c.seal_as-in-V4.ensures.ok

use Rattle.paseto_keys.proofs.line.paserk_key.Goals as goal

pub returns-in-Local : goal.returns-in-Local
returns-in-Local c = rw c.in-Local.is c.local_key.ensures

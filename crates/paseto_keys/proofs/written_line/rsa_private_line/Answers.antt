use Rattle.paseto_rsa.specs.Keys.{IsPrivate}
use Rattle.paseto_keys.proofs.WrittenLineLaws.{no_rsa_key}
use Rattle.paseto_keys.proofs.written_line.rsa_private_line.Goals as goal

pub returns-in-Err : goal.returns-in-Err
returns-in-Err c = rw c.from.ensures (record { ok = tt; refused = no_rsa_key IsPrivate c.args.key.now c.in-Err.error (rw c.lend.ensures at c.in-Err.ensures.refused) })

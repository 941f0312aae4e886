use Rattle.paseto_keys.proofs.WrittenLineLaws.{no_length}
use Rattle.paseto_keys.proofs.written_line.private_line.Goals as goal

pub returns-in-Err : goal.returns-in-Err
returns-in-Err g c =
    rw c.from.ensures (record { ok = tt; refused = no_length g.V.KeyPairVersion.secret_length c.args.key.now c.in-Err.error (rw c.lend.ensures at c.in-Err.ensures.refused) })

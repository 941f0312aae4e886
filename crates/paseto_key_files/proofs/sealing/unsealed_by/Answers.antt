use Rattle.rusty_paseto_paserk.specs.Text.{writing}
use Rattle.rusty_paseto_paserk.specs.declared.header.PaserkType.TheVariants.{Local}
use Rattle.paseto_key_files.specs.Line.{IsLocalKey}
use Rattle.paseto_key_files.specs.Opening.{SealFaults, Seals}
use Rattle.paseto_key_files.proofs.HeldLaws.{not_unwrapped, unwrapped}
use Rattle.paseto_key_files.proofs.sealing.unsealed_by.Goals as goal

pub returns-in-Ok : goal.returns-in-Ok
returns-in-Ok g c =
    let version = g.V.KeyVersion.paserk in
    let unwraps = rw c.lend.ensures at c.in-Ok.ensures in
    unwrapped IsLocalKey (writing version Local) (Seals version c.args.private.now) (SealFaults version c.args.private.now) c.args.text.now c.in-Ok.key unwraps
    c.local_line.result c.local_line.ensures.ok c.local_line.ensures.err

pub returns-in-Err : goal.returns-in-Err
returns-in-Err g c =
    let version = g.V.KeyVersion.paserk in
    rw c.from.ensures (not_unwrapped IsLocalKey (writing version Local) (Seals version c.args.private.now)
    (SealFaults version c.args.private.now) c.args.text.now c.in-Err.error (rw c.lend.ensures at c.in-Err.ensures))

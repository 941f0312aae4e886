use Rattle.rusty_paseto_paserk.specs.Text.{writing}
use Rattle.rusty_paseto_paserk.specs.declared.header.PaserkType.TheVariants.{Local}
use Rattle.paseto_wrapping.specs.declared.header.WrappedType.TheVariants.{LocalPassword}
use Rattle.paseto_key_files.specs.Line.{IsLocalKey}
use Rattle.paseto_key_files.specs.Opening.{PasswordFaults, UnderPassword}
use Rattle.paseto_key_files.proofs.HeldLaws.{not_unwrapped, unwrapped}
use Rattle.paseto_key_files.proofs.password.local_under.Goals as goal

pub returns-in-Ok : goal.returns-in-Ok
returns-in-Ok g c =
    let version = g.V.KeyVersion.paserk in
    let unwraps = rw c.bound.ensures at c.in-Ok.ensures in
    unwrapped IsLocalKey (writing version Local) (UnderPassword version LocalPassword c.args.password.now) (PasswordFaults version LocalPassword c.args.password.now)
    c.args.text.now c.in-Ok.key unwraps c.local_line.result c.local_line.ensures.ok c.local_line.ensures.err

pub returns-in-Err : goal.returns-in-Err
returns-in-Err g c =
    let version = g.V.KeyVersion.paserk in
    let unwraps = rw c.bound.ensures at c.in-Err.ensures in
    rw c.from.ensures (not_unwrapped IsLocalKey (writing version Local) (UnderPassword version LocalPassword c.args.password.now)
    (PasswordFaults version LocalPassword c.args.password.now) c.args.text.now c.in-Err.error unwraps)

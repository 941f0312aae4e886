use Rattle.rusty_paseto_paserk.specs.Text.{writing}
use Rattle.rusty_paseto_paserk.specs.declared.header.PaserkType.TheVariants.{Local}
use Rattle.paseto_wrapping.specs.declared.header.WrappedType.TheVariants.{LocalWrap}
use Rattle.paseto_key_files.specs.Line.{IsLocalKey}
use Rattle.paseto_key_files.specs.Opening.{PieFaults, Pies}
use Rattle.paseto_key_files.proofs.HeldLaws.{not_unwrapped, unwrapped}
use Rattle.paseto_key_files.proofs.wrapping.local_under.Goals as goal

pub returns-in-Ok : goal.returns-in-Ok
returns-in-Ok g c =
    let version = g.V.KeyVersion.paserk in
    unwrapped IsLocalKey (writing version Local) (Pies version LocalWrap c.args.wrapping.now) (PieFaults version LocalWrap c.args.wrapping.now) c.args.text.now
    c.in-Ok.key c.in-Ok.ensures c.local_line.result c.local_line.ensures.ok c.local_line.ensures.err

pub returns-in-Err : goal.returns-in-Err
returns-in-Err g c =
    let version = g.V.KeyVersion.paserk in
    rw c.from.ensures (not_unwrapped IsLocalKey (writing version Local) (Pies version LocalWrap c.args.wrapping.now)
    (PieFaults version LocalWrap c.args.wrapping.now) c.args.text.now c.in-Err.error c.in-Err.ensures)

use Rattle.rusty_paseto_paserk.specs.Text.{writing}
use Rattle.rusty_paseto_paserk.specs.declared.header.PaserkType.TheVariants.{Local}
use Rattle.paseto_wrapping.specs.declared.header.WrappedType.TheVariants.{LocalWrap}
use Rattle.paseto_key_files.specs.Line.{IsLocalKey}
use Rattle.paseto_key_files.specs.Opening.{PieFaults, Pies}
use Rattle.paseto_key_files.proofs.HeldLaws.{no_opener, opened_by_own}
use Rattle.paseto_key_files.proofs.wrapping.local_with.Goals as goal

pub returns-in-Ok : goal.returns-in-Ok
returns-in-Ok g c =
    let version = g.V.KeyVersion.paserk in
    opened_by_own version Local IsLocalKey IsLocalKey (writing version Local) (Pies version LocalWrap) IsLocalKey (Pies version LocalWrap) (PieFaults version LocalWrap)
    c.args.opener.now c.args.text.now c.in-Ok.own c.in-Ok.ensures c.local_under.result (rw c.wrapping_key.ensures at c.local_under.ensures)

pub returns-in-Err : goal.returns-in-Err
returns-in-Err g c =
    let version = g.V.KeyVersion.paserk in
    rw c.of_opener.ensures (no_opener version Local IsLocalKey IsLocalKey (writing version Local) (Pies version LocalWrap) IsLocalKey (Pies version LocalWrap) (PieFaults version LocalWrap)
    c.args.opener.now c.args.text.now c.in-Err.error c.in-Err.ensures)

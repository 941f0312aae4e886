use Rattle.rusty_paseto_paserk.specs.declared.header.PaserkType.TheVariants.{Local}
use Rattle.paseto_wrapping.specs.declared.header.WrappedType.TheVariants.{SecretWrap}
use Rattle.paseto_key_files.specs.Line.{IsLocalKey, IsPrivateKey, private_line}
use Rattle.std.proofs.Common.{List, ℕ}
use Rattle.paseto_key_files.specs.Opening.{InForm, IsInForm, PieFaults, Pies}
use Rattle.paseto_key_files.proofs.HeldLaws.{no_opener, opened_by_own}
use Rattle.paseto_key_files.proofs.wrapping.private_with.Goals as goal

pub returns-in-Ok : goal.returns-in-Ok
returns-in-Ok g c =
    let version = g.V.KeyVersion.paserk in
    opened_by_own version Local IsLocalKey (IsPrivateKey version) (private_line version) (λ (wk : List ℕ). InForm version (Pies version SecretWrap wk)) (IsInForm version) (Pies version SecretWrap) (PieFaults version SecretWrap)
    c.args.opener.now c.args.text.now c.in-Ok.own c.in-Ok.ensures c.private_under.result (rw c.wrapping_key.ensures at c.private_under.ensures)

pub returns-in-Err : goal.returns-in-Err
returns-in-Err g c =
    let version = g.V.KeyVersion.paserk in
    rw c.of_opener.ensures (no_opener version Local IsLocalKey (IsPrivateKey version) (private_line version) (λ (wk : List ℕ). InForm version (Pies version SecretWrap wk)) (IsInForm version) (Pies version SecretWrap) (PieFaults version SecretWrap)
    c.args.opener.now c.args.text.now c.in-Err.error c.in-Err.ensures)

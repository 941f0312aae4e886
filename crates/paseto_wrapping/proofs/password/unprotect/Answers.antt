use Rattle.paseto_wrapping.specs.Password.{IsPasswordFault, IsProtected}
use Rattle.paseto_wrapping.proofs.Protected.{password_fault}
use Rattle.paseto_wrapping.proofs.Reading.{text_unwrapped}
use Rattle.paseto_wrapping.proofs.password.unprotect.Goals as goal

pub returns : goal.returns
returns c =
    let version = c.args.version in
    let kind = c.args.kind in
    let password = c.args.password.now in
    text_unwrapped version kind (IsProtected version kind password c.args.most) (IsPasswordFault version kind password c.args.most) c.args.text.now c.in_ok-payload.payload c.in_ok-payload.ensures
    (password_fault version kind password c.args.most) c.open.result (rw c.deref.ensures.value at c.open.ensures)

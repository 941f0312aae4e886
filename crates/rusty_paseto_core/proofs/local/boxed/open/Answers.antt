use Rattle.std.proofs.Common.{refl, arith}
use Rattle.rusty_paseto_core.specs.Context.{Binding, bound}
use Rattle.rusty_paseto_core.specs.Local.Boxed.{box_opening}
use Rattle.rusty_paseto_core.proofs.Unboxed.{boxed_carries, box_opening-lawful}
use Rattle.rusty_paseto_core.proofs.ReadingLaws.{answered, refused}
use Rattle.rusty_paseto_core.proofs.local.boxed.open.Goals as goal

pub returns-in_err-payload : goal.returns-in_err-payload
returns-in_err-payload g c =
    let box = g.B.SealedBox.sealing in
    let binding : Binding = bound c.args.key.now c.args.context.now in
    let law = box_opening-lawful box g.met.B.SealedBox.lawful binding (omega arith) c.fits-key c.footer.ensures.bytes in
    refused (box_opening box binding) law _ _ c.args.token.now refl c.footer.ensures.text c.in_err-payload.field-0.0
    c.from_residual.result c.from_residual.ensures.1 c.in_err-payload.ensures.fault (λ none. let e = c.in_err-payload.ensures.count none in cc)

pub returns : goal.returns
returns g c =
    let box = g.B.SealedBox.sealing in
    let binding : Binding = bound c.args.key.now c.args.context.now in
    let law = box_opening-lawful box g.met.B.SealedBox.lawful binding (omega arith) c.fits-key c.footer.ensures.bytes in
    answered (box_opening box binding) law _ _ c.args.token.now refl c.footer.ensures.text _ c.in_ok-payload.ensures.framed
    c.open_payload.result
    (λ bytes. boxed_carries box g.met.B.SealedBox.lawful binding (omega arith) c.fits-key c.footer.ensures.bytes _ bytes c.open_payload.result
    (rw c.deref.ensures.value at c.open_payload.ensures.holds))
    (rw c.deref.ensures.value at c.open_payload.ensures.fault)

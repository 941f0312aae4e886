use Rattle.rusty_paseto_core.specs.Context.{Binding, bound}
use Rattle.rusty_paseto_core.specs.Local.Opening.{opening}
use Rattle.rusty_paseto_core.proofs.Opened.{opened_carries, opening-lawful, sealed_fault}
use Rattle.rusty_paseto_core.proofs.ReadingLaws.{answered, refused}
use Rattle.rusty_paseto_core.proofs.local.opening.open.Goals as goal

pub returns-in_err-payload : goal.returns-in_err-payload
returns-in_err-payload g c =
    let design = g.V.LocalSuite.design in
    let binding : Binding = bound c.args.key.now c.args.context.now in
    let law = opening-lawful design g.met.V.LocalSuite.lawful binding c.footer.ensures.bytes in
    refused (opening design binding) law _ _ c.args.token.now g.met.V.LocalSuite.has_version c.footer.ensures.text c.in_err-payload.field-0.0
    c.from_residual.result c.from_residual.ensures.1 c.in_err-payload.ensures.fault (λ none. let e = c.in_err-payload.ensures.count none in cc)

pub returns : goal.returns
returns g c =
    let design = g.V.LocalSuite.design in
    let binding : Binding = bound c.args.key.now c.args.context.now in
    let law = opening-lawful design g.met.V.LocalSuite.lawful binding c.footer.ensures.bytes in
    answered (opening design binding) law _ _ c.args.token.now g.met.V.LocalSuite.has_version c.footer.ensures.text _ c.in_ok-payload.ensures.framed
    c.open_payload.result
    (λ bytes. opened_carries design g.met.V.LocalSuite.lawful binding _ bytes c.open_payload.result c.open_payload.ensures.holds)
    (sealed_fault design g.met.V.LocalSuite.lawful binding _ c.open_payload.result c.open_payload.ensures.fault)

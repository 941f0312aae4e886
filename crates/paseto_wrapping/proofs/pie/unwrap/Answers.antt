use Rattle.paseto_wrapping.specs.Pie.{IsPie, IsPieFault}
use Rattle.paseto_wrapping.proofs.Pies.{pie_fault}
use Rattle.paseto_wrapping.proofs.Reading.{text_unwrapped}
use Rattle.paseto_wrapping.proofs.pie.unwrap.Goals as goal

pub returns : goal.returns
returns c =
    let version = c.args.version in
    let kind = c.args.kind in
    let wk = c.args.wrapping_key.now in
    text_unwrapped version kind (IsPie version kind wk) (IsPieFault version kind wk) c.args.text.now c.in_ok-payload.payload c.in_ok-payload.ensures
    (pie_fault version kind wk) c.open.result (rw c.deref.ensures.value at c.open.ensures)

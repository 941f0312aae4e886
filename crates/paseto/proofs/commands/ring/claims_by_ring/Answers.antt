use Rattle.paseto.specs.Check.{demanded}
use Rattle.paseto.proofs.RingReads.{ring_told}
use Rattle.paseto.proofs.commands.ring.claims_by_ring.Goals as goal

pub returns : goal.returns
returns c =
    let parser = c.reader.ensures in
    let told = c.found.ensures in
    rw parser.footer at (ring_told c.args.keys.now c.reader.result.footer (demanded c.args.demands.now).assertion c.args.token.now c.admit_by_ring.result
    (rw (parser.longest, parser.assertion, parser.rules) at c.admit_by_ring.ensures) c.found.result
    (record { value = told.value; refused = told.refused; no_usage = told.no_usage; blames = told.blames; said = told.said }))

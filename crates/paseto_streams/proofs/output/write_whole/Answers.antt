use Rattle.std.proofs.Common.{◌++◌, arith, take}
use Rattle.std.proofs.KnownBytes.{Appends-trans}
use Rattle.paseto_streams.proofs.Transfers.{cut_short, written_more}
use Rattle.paseto_streams.proofs.output.write_whole.Goals as goal

pub writes-preserved : goal.writes-preserved
writes-preserved g c =
    let written = c.writes.invariant.0 in
    let more = take c.in_ok-count.count c.writes.rest.now in (
      written ++ more,
      Appends-trans _ _ _ written more c.writes.invariant.1 c.in_ok-count.ensures.bytes,
      written_more c.args.bytes.now written c.writes.rest.now c.in_ok-count.count c.writes.invariant.2,
    )

pub returns-in_err-count-clause-beginning : goal.returns-in_err-count-clause-beginning
returns-in_err-count-clause-beginning g c =
    cut_short c.from_residual.result c.args.bytes.now c.writes.invariant.0 c.writes.rest.now _ _ _ c.writes.invariant.1 c.writes.invariant.2 (grind arith) c.in_err-count.ensures.bytes

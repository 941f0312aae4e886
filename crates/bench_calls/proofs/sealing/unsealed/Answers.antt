use Rattle.bench_calls.proofs.sealing.unsealed.Goals as goal

pub returns-in-Ok : goal.returns-in-Ok
returns-in-Ok g c = rw c.lend.ensures at c.in-Ok.ensures.found

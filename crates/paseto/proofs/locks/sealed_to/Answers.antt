use Rattle.paseto.proofs.Faults.{other_fault}
use Rattle.paseto.proofs.locks.sealed_to.Goals as goal

pub returns-in-Err-clause-refused : goal.returns-in-Err-clause-refused
returns-in-Err-clause-refused g c =
    other_fault _ c.seal_fault.result _ c.in-Err.error c.seal_fault.ensures.about c.seal_fault.ensures.error (rw c.in-Err.is at c.seal.ensures.refused)

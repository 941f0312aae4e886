use Rattle.paseto.proofs.Faults.{other_fault}
use Rattle.paseto.proofs.locks.under_line.Goals as goal

pub returns-in-Err-clause-refused : goal.returns-in-Err-clause-refused
returns-in-Err-clause-refused g c =
    other_fault _ c.key_file_fault.result _ c.in-Err.error c.key_file_fault.ensures.about c.key_file_fault.ensures.error (rw c.in-Err.is at c.wrap.ensures.refused)

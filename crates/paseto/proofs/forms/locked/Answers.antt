use Rattle.std.proofs.Common.{◌∙◌}
use Rattle.paseto.proofs.Faults.{key_fault}
use Rattle.paseto.proofs.forms.locked.Goals as goal

pub returns-in-Err-clause-refused : goal.returns-in-Err-clause-refused
returns-in-Err-clause-refused g c =
    key_fault _ c.about.result _ c.in-Err.error c.about.ensures.name (c.about.ensures.error ∙ c.from.ensures) (rw (c.in-Err.is, c.cost.ensures) at c.protect.ensures.refused)

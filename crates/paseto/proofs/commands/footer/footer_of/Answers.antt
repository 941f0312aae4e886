use Rattle.std.proofs.Common.{inr}
use Rattle.paseto.proofs.commands.footer.footer_of.Goals as goal

pub returns-then-is_private_id-clause-none : goal.returns-then-is_private_id-clause-none
returns-then-is_private_id-clause-none c = inr (λ footer is. (rw c.in-Some.is at is.1) c.if-is_private_id.ensures)

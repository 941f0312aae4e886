use Rattle.std.proofs.Common.{rules}
use Rattle.paseto_wrapping.proofs.keys.wrapped_form.Goals as goal

pub returns-in-V1 : goal.returns-in-V1
returns-in-V1 c = search rules

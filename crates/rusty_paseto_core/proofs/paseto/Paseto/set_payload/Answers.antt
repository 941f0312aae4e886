use Rattle.std.proofs.Common.{rules}
use Rattle.rusty_paseto_core.proofs.paseto.Paseto.set_payload.Goals as goal

pub returns-clause-change : goal.returns-clause-change
returns-clause-change g c = search rules

use Rattle.std.proofs.Common.{rules}
use Rattle.paseto_wrapping.proofs.header.version_of.Goals as goal

pub returns-in-Some-after-clause-found : goal.returns-in-Some-after-clause-found
returns-in-Some-after-clause-found c = search rules

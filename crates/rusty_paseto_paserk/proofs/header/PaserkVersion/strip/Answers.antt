use Rattle.std.proofs.Common.{rules}
use Rattle.rusty_paseto_paserk.proofs.header.PaserkVersion.strip.Goals as goal

pub returns-in-Some-after-clause-found : goal.returns-in-Some-after-clause-found
returns-in-Some-after-clause-found c = search rules

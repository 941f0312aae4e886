use Rattle.std.proofs.Common.{rules}
use Rattle.rusty_paseto_paserk.proofs.keys.secret_to_paserk.Goals as goal

pub returns : goal.returns
returns g c = search rules

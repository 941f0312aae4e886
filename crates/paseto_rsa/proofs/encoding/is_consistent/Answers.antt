use Rattle.std.proofs.Common.{rules}
use Rattle.paseto_rsa.proofs.encoding.is_consistent.Goals as goal

pub returns : goal.returns
returns c = search rules

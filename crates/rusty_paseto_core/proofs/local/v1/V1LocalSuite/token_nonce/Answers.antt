use Rattle.std.proofs.Common.{rules}
use Rattle.rusty_paseto_core.specs.Local.V1.{v1}
use Rattle.rusty_paseto_core.proofs.local.v1.V1LocalSuite.token_nonce.Goals as goal

pub returns : goal.returns
unfolding v1
returns c = search rules

use Rattle.std.proofs.Common.{rules}
use Rattle.paseto_ed25519.proofs.signing.challenge.Goals as goal

pub returns : goal.returns
returns c = search rules

use Rattle.std.proofs.Common.{rules}
use Rattle.rusty_paseto_claims.proofs.reserved.IssuerReservedKey.text.Goals as goal

pub returns : goal.returns
returns c = search rules

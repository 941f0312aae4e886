use Rattle.std.proofs.Common.{rules}
use Rattle.rusty_paseto_claims.proofs.claim_value.RefStrClaimValue.to_value.Goals as goal

pub returns-clause-ok : goal.returns-clause-ok
returns-clause-ok c = search rules

use Rattle.std.proofs.Common.{rules}
use Rattle.rusty_paseto_claims.proofs.date_claim.DateClaim.try_from_string.Goals as goal

pub invariant_of-result : goal.invariant_of-result
invariant_of-result g c = search rules

pub returns : goal.returns
returns g c = search rules

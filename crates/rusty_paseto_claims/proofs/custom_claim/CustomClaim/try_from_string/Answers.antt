use Rattle.std.proofs.Common.{rules}
use Rattle.rusty_paseto_claims.proofs.custom_claim.CustomClaim.try_from_string.Goals as goal

pub invariant_of-result : goal.invariant_of-result
invariant_of-result g c = search rules

pub returns-clause-exact : goal.returns-clause-exact
returns-clause-exact g c = search rules

use Rattle.std.proofs.Common.{rules}
use Rattle.rusty_paseto_claims.proofs.custom_claim.CustomClaimPasetoClaim.to_json.Goals as goal

pub returns-clause-ok : goal.returns-clause-ok
returns-clause-ok g c = search rules

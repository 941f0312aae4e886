use Rattle.std.proofs.Common.{rules}
use Rattle.rusty_paseto_claims.proofs.text_claim.TextClaimPasetoClaim.get_key.Goals as goal

pub returns : goal.returns
returns g c = search rules

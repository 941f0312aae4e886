use Rattle.std.proofs.Common.{rules}
use Rattle.rusty_paseto_claims.proofs.text_claim.TextClaim.as_pair.Goals as goal

pub returns-clause-key : goal.returns-clause-key
returns-clause-key g c = search rules

pub returns-clause-text : goal.returns-clause-text
returns-clause-text g c = search rules

use Rattle.std.proofs.Common.{rules}
use Rattle.rusty_paseto_claims.proofs.date_claim.DateClaim.as_pair.Goals as goal

pub returns-clause-text : goal.returns-clause-text
returns-clause-text g c = search rules

pub returns-clause-date : goal.returns-clause-date
returns-clause-date g c = search rules

use Rattle.std.proofs.Common.{string_bytes}
use Rattle.rusty_paseto_claims.proofs.MomentLemmas.{moment_date, moment_read}
use Rattle.rusty_paseto_claims.proofs.date_claim.DateClaim.at.Goals as goal

pub invariant_of-result : goal.invariant_of-result
invariant_of-result g c = moment_date c.args.moment (string_bytes c.in_ok-text.text) c.in_ok-text.ensures

pub returns-clause-read : goal.returns-clause-read
returns-clause-read g c = moment_read c.args.moment (string_bytes c.in_ok-text.text) c.in_ok-text.ensures

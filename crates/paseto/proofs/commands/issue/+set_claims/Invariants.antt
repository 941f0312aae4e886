use Rattle.std.proofs.Common.{length}
use Rattle.paseto.proofs.commands.issue.+set_claims.Given as goal

abbrev pub decreases-set_claims : goal.decreases-set_claims
decreases-set_claims g l = length l.claims.now

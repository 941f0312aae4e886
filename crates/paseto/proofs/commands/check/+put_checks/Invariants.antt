use Rattle.std.proofs.Common.{length}
use Rattle.paseto.proofs.commands.check.+put_checks.Given as goal

abbrev pub decreases-put_checks : goal.decreases-put_checks
decreases-put_checks g l = length l.claims.now

use Rattle.std.proofs.Common.{length}
use Rattle.paseto.proofs.commands.check.+put_requirements.Given as goal

abbrev pub decreases-put_requirements : goal.decreases-put_requirements
decreases-put_requirements g l = length l.names.now

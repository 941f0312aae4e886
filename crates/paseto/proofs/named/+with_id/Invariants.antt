use Rattle.std.proofs.Common.{length}
use Rattle.paseto.proofs.named.+with_id.Given as goal

abbrev pub decreases-with_id : goal.decreases-with_id
decreases-with_id l = length l.keys.now

use Rattle.std.proofs.Common.{length}
use Rattle.paseto.proofs.folder.+last_private.Given as goal

abbrev pub decreases-last_private : goal.decreases-last_private
decreases-last_private l = length l.keys.now

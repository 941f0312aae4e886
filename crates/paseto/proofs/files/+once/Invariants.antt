use Rattle.std.proofs.Common.{length}
use Rattle.paseto.proofs.files.+once.Given as goal

abbrev pub decreases-once : goal.decreases-once
decreases-once l = length l.files.now

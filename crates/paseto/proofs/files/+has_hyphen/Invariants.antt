use Rattle.std.proofs.Common.{length}
use Rattle.paseto.proofs.files.+has_hyphen.Given as goal

abbrev pub decreases-has_hyphen : goal.decreases-has_hyphen
decreases-has_hyphen l = length l.files.now

use Rattle.std.proofs.Common.{length}
use Rattle.paseto_tasks.proofs.error.+write_pieces.Given as goal

abbrev pub decreases-write_pieces : goal.decreases-write_pieces
decreases-write_pieces g l = length l.pieces.now

use Rattle.std.proofs.Common.{◌<◌, ◌^◌, take, length}
use Rattle.std.specs.List.{All}
use Rattle.rusty_paseto_parts.proofs.laws.lengths_fit.Given as goal

abbrev pub invariant-pieces : goal.invariant-pieces
invariant-pieces l = All (λ piece. length piece.now < 2 ^ 64) (take l.piece-index l.pieces)

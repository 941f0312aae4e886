use Rattle.std.proofs.Common.{◌<◌, ◌^◌, List, ℕ, length, take_all}
use Rattle.std.proofs.lemmas.List.Elements.{All-map, All-more}
use Rattle.std.specs.Borrow.{Bor}
use Rattle.rusty_paseto_parts.proofs.laws.lengths_fit.Goals as goal

pub pieces-preserved : goal.pieces-preserved
pieces-preserved c = All-more (λ (piece : Bor (List ℕ)). length piece.now < 2 ^ 64) c.args.pieces.now c.pieces.piece-index _ c.pieces-test.true c.pieces.invariant c.length_fits.ensures

pub returns-clause-each : goal.returns-clause-each
returns-clause-each c =
    All-map (λ (piece : List ℕ). length piece < 2 ^ 64) (λ (piece : Bor (List ℕ)). piece.now) c.args.pieces.now
    (rw (take_all c.pieces.piece-index c.args.pieces.now c.pieces-test.false) at c.pieces.invariant)

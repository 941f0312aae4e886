use Rattle.std.proofs.Common.{◌≡◌, ◌++◌}
use Rattle.std.specs.String.{string_bytes}
use Rattle.std.specs.Slice.Iter.{chunks_rest, chunks_size}
use Rattle.paseto_pem.specs.Text.{base64, lines}
use Rattle.paseto_pem.proofs.text.push_lines.Given as goal

abbrev pub invariant-pieces : goal.invariant-pieces
invariant-pieces l =
    goal.iterator-pieces.can_next l.piece-iterator
    × goal.iterator-pieces.is_finite l.piece-iterator
    × (chunks_size l.piece-iterator ≡ 48)
    × (string_bytes l.text ++ lines (base64 (chunks_rest l.piece-iterator))
    ≡ string_bytes l.initial.text ++ lines (base64 l.fn.contents))

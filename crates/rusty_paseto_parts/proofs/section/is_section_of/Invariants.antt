use Rattle.std.proofs.Common.{◌≡◌, ◌↔◌}
use Rattle.std.specs.Slice.Iter.{chunks_rest, chunks_size}
use Rattle.rusty_paseto_parts.specs.Section.{base64url}
use Rattle.rusty_paseto_parts.proofs.section.is_section_of.Given as goal

abbrev pub invariant-pieces : goal.invariant-pieces
invariant-pieces l =
    goal.iterator-pieces.can_next l.piece-iterator
    × goal.iterator-pieces.is_finite l.piece-iterator
    × (chunks_size l.piece-iterator ≡ 48)
    × ((l.fn.text ≡ base64url l.fn.bytes) ↔ (l.rest ≡ base64url (chunks_rest l.piece-iterator)))

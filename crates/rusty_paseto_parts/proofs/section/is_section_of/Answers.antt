use Rattle.std.proofs.Common.{◌≡◌, [], length, refl, sym, ap, ◌∙◌, arith, rules}
use Rattle.std.proofs.lemmas.Bool.Decides.{nat_tests}
use Rattle.std.specs.Slice.Iter.{chunks_rest}
use Rattle.std.proofs.lemmas.List.{nil_from_length}
use Rattle.rusty_paseto_parts.specs.Section.{base64url}
use Rattle.rusty_paseto_parts.proofs.SectionLemmas.{base64url_after, base64url-nil}
use Rattle.rusty_paseto_parts.proofs.section.is_section_of.Goals as goal

pub pieces-init : goal.pieces-init
pieces-init c = (search rules, tt, search rules, search rules)

pub returns-in_default : goal.returns-in_default
returns-in_default c =
    let steps = c.in-Some.ensures.steps in
    let size = c.pieces.invariant.2 in (
      λ no. cc no,
      λ same.
          let rest = c.pieces.invariant.3.0 same in
          let whole = base64url_after _ c.in-Some.piece.now (chunks_rest c.next.new.self) (base64url (chunks_rest c.next.new.self)) steps.1.0 (rw size at steps.1.1) in
          absurd (c.in_default.ensures _ (rest ∙ sym (whole.1 refl))),
    )

pub pieces-preserved : goal.pieces-preserved
pieces-preserved c =
    let steps = c.in-Some.ensures.steps in
    let size = c.pieces.invariant.2 in
    let so_far = c.pieces.invariant.3 in
    let after = c.in-Some-strip_base64url.ensures in
    let whole = base64url_after _ c.in-Some.piece.now (chunks_rest c.next.new.self) c.in-Some-strip_base64url.after.now steps.1.0 (rw size at steps.1.1) in (
      search rules,
      tt,
      steps.0 ∙ size,
      (λ same. whole.0 (sym after ∙ so_far.0 same), λ same. so_far.1 (after ∙ whole.1 same)),
    )

pub returns : goal.returns
returns c =
    let none = nil_from_length (chunks_rest c.pieces.piece-iterator) c.in-None.ensures.steps.1.0 in
    let last : base64url (chunks_rest c.pieces.piece-iterator) ≡ [] = rw none base64url-nil in
    let read = rw last at c.pieces.invariant.3 in (
      λ empty. read.1 (nil_from_length c.pieces.rest.now (grind (arith, nat_tests))),
      λ same. let gone : length c.pieces.rest.now ≡ 0 = ap length (read.0 same) in grind (arith, nat_tests),
    )

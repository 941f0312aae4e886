use Rattle.std.proofs.Common.{◌≡◌, [], ◌++◌, sym, ap, ◌∙◌, rules}
use Rattle.std.specs.String.{string_bytes}
use Rattle.std.specs.Slice.Iter.{chunks_rest}
use Rattle.std.proofs.lemmas.List.{append-nil, nil_from_length}
use Rattle.paseto_pem.specs.Text.{base64, lines}
use Rattle.paseto_pem.proofs.LineLaws.{base64-nil, lines-none, pushed-line}
use Rattle.paseto_pem.proofs.text.push_lines.Goals as goal

pub pieces-init : goal.pieces-init
pieces-init c = (search rules, tt, search rules, search rules)

pub pieces-preserved : goal.pieces-preserved
unfolding base64
pieces-preserved c =
    let steps = c.in-Some.ensures.steps in
    let size = c.pieces.invariant.2 in
    let line = c.in_ok-push_str.ensures.bytes ∙ ap (λ l. string_bytes c.pieces.text ++ l) (c.deref.ensures ∙ c.in_ok-line.ensures) in (
      search rules,
      tt,
      steps.0 ∙ size,
      pushed-line (chunks_rest c.pieces.piece-iterator) c.in-Some.piece.now (chunks_rest c.next.new.self)
          (string_bytes c.pieces.text) (string_bytes c.push_str.new.self) (string_bytes c.push_str-in-pieces.new.self) _
          steps.1.0 (rw size at steps.1.1) steps.1.2 line c.in_ok-push_str-2.ensures.bytes c.pieces.invariant.3,
    )

pub returns : goal.returns
returns c =
    let none = nil_from_length (chunks_rest c.pieces.piece-iterator) c.in-None.ensures.steps.1.0 in
    let nothing : lines (base64 (chunks_rest c.pieces.piece-iterator)) ≡ [] =
    ap (λ l. lines (base64 l)) none ∙ ap lines base64-nil ∙ lines-none in
    sym (ap (λ l. string_bytes c.pieces.text ++ l) nothing ∙ append-nil (string_bytes c.pieces.text)) ∙ c.pieces.invariant.3

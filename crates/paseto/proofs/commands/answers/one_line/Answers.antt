use Rattle.std.proofs.Common.{◌≡◌, ◌∙◌, ap, encode_utf8_all, map, map-id, string_bytes, sym}
use Rattle.std.proofs.lemmas.Iterator.{YieldsList-from_chars}
use Rattle.std.proofs.lemmas.Iterator.Consumers.{YieldsList-end}
use Rattle.std.proofs.lemmas.List.{map_push}
use Rattle.std.proofs.lemmas.Str.{encodes-append}
use Rattle.paseto.specs.Answers.{one_line, shown_letter}
use Rattle.paseto.proofs.commands.answers.one_line.Goals as goal

pub loop-letter-preserved : goal.loop-letter-preserved
loop-letter-preserved c =
    rw (map_push shown_letter, encodes-append, ← c.loop-letter.invariant) c.in_ok-push_shown.ensures

pub returns : goal.returns
returns c =
    let done = YieldsList-end (YieldsList-from_chars c.args.text.now c.utf8.text cc) c.loop-letter.yielded _ c.loop-letter.yielded_by _ _ c.in-None.is c.next.ensures.steps in
    let bytes : string_bytes c.loop-letter.line ≡ one_line c.args.text.now =
    c.loop-letter.invariant ∙ ap (λ letters. encode_utf8_all (map shown_letter letters)) (sym (map-id c.loop-letter.yielded) ∙ done.0) in
    bytes

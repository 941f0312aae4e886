use Rattle.std.proofs.Common.{string_bytes}
use Rattle.rusty_paseto_generic.proofs.ParseLemmas.{text_answer}
use Rattle.rusty_paseto_generic.proofs.parsers.parsing.parse_opened.Goals as goal

pub returns : goal.returns
returns g c =
    let text = string_bytes c.in_ok-text.text in
    let ok = rw c.as_str.ensures.value at c.parse_text.ensures.ok in
    let err = rw c.as_str.ensures.value at c.parse_text.ensures.err in
    rw c.in_ok-text.was (text_answer _ text c.parse_text.result ok err)

use Rattle.std.proofs.Common.{[], sym, ◌∙◌}
use Rattle.paseto_pem.proofs.BlockLaws.{body-answer}
use Rattle.paseto_pem.proofs.OctetLaws.{equal-octets}
use Rattle.paseto_pem.proofs.text.contents_of.Goals as goal

pub returns : goal.returns
returns c =
    let last = equal-octets _ _ (sym c.if-ne.false ∙ c.ne.ensures) ∙ c.end_boundary.ensures in
    let read = rw c.in-Some.is at c.in_ok-characters.ensures in
    body-answer c.args.label c.args.behind.now (record { ref_ptr = (0, 0); now = [] }) c.deref.result.now c.decode.result c.in-len1-up.len_at_least last read.0
    (c.deref.ensures ∙ read.1) c.decode.ensures.read c.decode.ensures.none

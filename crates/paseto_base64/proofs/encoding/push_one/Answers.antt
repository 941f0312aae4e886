use Rattle.std.proofs.lemmas.List.{append_assoc}
use Rattle.base64.proofs.Decoding.{OnOk_implies}
use Rattle.paseto_base64.proofs.Ends.{one_end}
use Rattle.paseto_base64.proofs.encoding.push_one.Goals as goal

pub returns : goal.returns
returns c =
    OnOk_implies c.push_padding.result _ _
    (λ padded. rw (one_end c.args.alphabet c.args.one)
    (rw (c.in_ok-push_symbol-2.ensures, c.in_ok-push_symbol.ensures, append_assoc, append_assoc) at padded))
    c.push_padding.ensures

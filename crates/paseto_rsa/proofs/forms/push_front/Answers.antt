use Rattle.std.proofs.Common.{◌∷◌, ◌++◌, sym, ap, ◌∙◌}
use Rattle.paseto_der.proofs.ElementLaws.{der-two}
use Rattle.paseto_rsa.proofs.forms.push_front.Goals as goal

pub returns : goal.returns
returns c =
    c.in_ok-extend_from_slice.ensures.items
    ∙ ap (λ d. c.args.out.now.items ++ c.args.tag ∷ d) (sym (der-two c.args.length c.requires.long))

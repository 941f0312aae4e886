use Rattle.std.proofs.Common.{◌+◌, ◌∷◌, ◌++◌, ap, ◌∙◌, length, refl}
use Rattle.paseto_der.specs.Element.{der_length}
use Rattle.paseto_rsa.proofs.FormLaws.{private-info-is}
use Rattle.paseto_rsa.proofs.forms.write_private_info.Goals as goal

pub returns : goal.returns
returns c =
    let inner = c.args.inner.now in
    let string = 0x04 ∷ der_length (length inner) in
    let sequence = 0x30 ∷ der_length (length inner + 22) in
    c.in_ok-extend_from_slice-2.ensures.items
    ∙ ap (λ l. l ++ inner) (c.in_ok-push_front-2.ensures
    ∙ ap (λ l. l ++ string) (c.in_ok-extend_from_slice.ensures.items
    ∙ ap (λ l. l ++ c.key_front.result) (c.in_ok-push_front.ensures ∙ ap (λ l. l ++ sequence) c.in_ok-info.ensures.items)))
    ∙ private-info-is inner c.key_front.result (length inner) (length inner + 22) refl c.requires.long refl c.key_front.ensures

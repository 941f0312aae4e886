use Rattle.std.proofs.Common.{ap, ◌∙◌, ◌++◌, length}
use Rattle.paseto_der.specs.Element.{der_length}
use Rattle.paseto_pem.proofs.InfoLaws.{pushed-element}
use Rattle.paseto_pem.proofs.info.push_element.Goals as goal

pub returns : goal.returns
returns c =
    let contents = c.args.contents.now in
    c.in_ok-extend_from_slice-2.ensures.items
    ∙ ap (λ l. l ++ contents)
    (c.in_ok-push_length.ensures ∙ ap (λ l. l ++ der_length (length contents)) c.in_ok-extend_from_slice.ensures.items)
    ∙ pushed-element c.args.tag contents c.args.out.now.items

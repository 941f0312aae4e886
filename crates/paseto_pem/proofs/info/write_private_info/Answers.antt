use Rattle.std.proofs.Common.{◌++◌, length, sym, ap, ◌∙◌, append_assoc, arith}
use Rattle.paseto_der.specs.Element.{element}
use Rattle.paseto_pem.proofs.InfoLaws.{private-is, two-elements, version-length}
use Rattle.paseto_pem.proofs.info.write_private_info.Goals as goal

pub push_element-requires-3 : goal.push_element-requires-3
push_element-requires-3 c =
    let version = c.version.result in
    let contents = c.deref.ensures.value ∙ c.in_ok-push_element-2.ensures
    ∙ ap (λ l. l ++ element 0x04 c.args.key.now) (c.in_ok-push_element.ensures ∙ ap (λ l. l ++ element 0x30 c.args.algorithm.now) c.in_ok-contents.ensures.items) in
    rw contents (two-elements 0x30 0x04 c.args.algorithm.now c.args.key.now version (omega (arith, ap length c.version.ensures, version-length)) (omega (arith, c.requires)))

pub returns : goal.returns
returns c =
    let algorithm = c.args.algorithm.now in
    let key = c.args.key.now in
    let contents = c.deref.ensures.value ∙ c.in_ok-push_element-2.ensures
    ∙ ap (λ l. l ++ element 0x04 key) (c.in_ok-push_element.ensures ∙ ap (λ l. l ++ element 0x30 algorithm) (c.in_ok-contents.ensures.items ∙ c.version.ensures))
    ∙ append_assoc _ (element 0x30 algorithm) (element 0x04 key) in
    c.in_ok-push_element-3.ensures ∙ ap (λ l. l ++ element 0x30 c.deref.result.now) c.new-info.ensures.items
    ∙ ap (element 0x30) contents ∙ sym (private-is algorithm key)

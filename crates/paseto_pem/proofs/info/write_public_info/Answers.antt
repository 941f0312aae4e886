use Rattle.std.proofs.Common.{◌++◌, ◌∷◌, [], sym, ap, ◌∙◌, arith}
use Rattle.paseto_der.specs.Element.{element}
use Rattle.paseto_pem.proofs.InfoLaws.{public-is, two-elements}
use Rattle.paseto_pem.proofs.info.write_public_info.Goals as goal

pub push_element-requires-3 : goal.push_element-requires-3
push_element-requires-3 c =
    let algorithm = c.args.algorithm.now in
    let key = c.args.key.now in
    let bits = c.deref.ensures.value ∙ c.in_ok-extend_from_slice.ensures.items ∙ ap (λ l. l ++ key) c.in_ok-bits.ensures.items in
    let contents = c.deref-2.ensures.value ∙ c.in_ok-push_element-2.ensures
    ∙ ap (λ l. l ++ element 0x03 c.deref.result.now) (c.in_ok-push_element.ensures ∙ ap (λ l. l ++ element 0x30 algorithm) c.new-contents.ensures.items)
    ∙ ap (λ b. ([] ++ element 0x30 algorithm) ++ element 0x03 b) bits in
    rw contents (two-elements 0x30 0x03 algorithm (0 ∷ key) [] (omega arith) (omega (arith, c.requires)))

pub returns : goal.returns
returns c =
    let algorithm = c.args.algorithm.now in
    let key = c.args.key.now in
    let bits = c.deref.ensures.value ∙ c.in_ok-extend_from_slice.ensures.items ∙ ap (λ l. l ++ key) c.in_ok-bits.ensures.items in
    let contents = c.deref-2.ensures.value ∙ c.in_ok-push_element-2.ensures
    ∙ ap (λ l. l ++ element 0x03 c.deref.result.now) (c.in_ok-push_element.ensures ∙ ap (λ l. l ++ element 0x30 algorithm) c.new-contents.ensures.items)
    ∙ ap (λ b. element 0x30 algorithm ++ element 0x03 b) bits in
    c.in_ok-push_element-3.ensures ∙ ap (λ l. l ++ element 0x30 c.deref-2.result.now) c.new-info.ensures.items
    ∙ ap (element 0x30) contents ∙ sym (public-is algorithm key)

use Rattle.std.proofs.Common.{◌≡◌, ◌++◌, length, sym, ap, ◌∙◌, rules, arith}
use Rattle.paseto_der.specs.Element.{element}
use Rattle.paseto_pem.proofs.InfoLaws.{element-most}
use Rattle.paseto_pem.proofs.P384Laws.{part-is}
use Rattle.paseto_pem.proofs.p384.public_part.Goals as goal

pub push_element-requires-2 : goal.push_element-requires-2
push_element-requires-2 c =
    let xy = c.args.xy.now in
    let size : length xy ≡ 96 = search rules in
    let bits = c.deref.ensures.value ∙ c.in_ok-extend_from_slice.ensures.items ∙ ap (λ l. l ++ xy) c.in_ok-bits.ensures.items in
    let string = c.deref-2.ensures.value ∙ c.in_ok-push_element.ensures ∙ ap (λ l. l ++ element 0x03 c.deref.result.now) c.new-string.ensures.items in
    omega (arith, ap length string, element-most 0x03 c.deref.result.now, ap length bits, size)

pub returns : goal.returns
returns c =
    let xy = c.args.xy.now in
    let bits = c.deref.ensures.value ∙ c.in_ok-extend_from_slice.ensures.items ∙ ap (λ l. l ++ xy) c.in_ok-bits.ensures.items in
    let string = c.deref-2.ensures.value ∙ c.in_ok-push_element.ensures ∙ ap (λ l. l ++ element 0x03 c.deref.result.now) c.new-string.ensures.items in
    c.in_ok-push_element-2.ensures ∙ ap (λ l. l ++ element 0xa1 c.deref-2.result.now) c.new-part.ensures.items
    ∙ ap (element 0xa1) (string ∙ ap (element 0x03) bits) ∙ sym (part-is xy)

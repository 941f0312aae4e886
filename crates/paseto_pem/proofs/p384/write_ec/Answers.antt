use Rattle.std.proofs.Common.{◌≡◌, ◌∷◌, [], ◌++◌, length, ap, ◌∙◌, rules, arith}
use Rattle.paseto_der.specs.Element.{element}
use Rattle.paseto_pem.specs.P384.{public_part}
use Rattle.paseto_pem.proofs.InfoLaws.{element-most}
use Rattle.paseto_pem.proofs.P384Laws.{ec-most, ec-written, part-most}
use Rattle.paseto_pem.proofs.p384.write_ec.Goals as goal

pub push_element-requires-2 : goal.push_element-requires-2
push_element-requires-2 c =
    let number = c.args.number.now in
    let xy = c.args.xy.now in
    let size : length xy ≡ 96 = search rules in
    let front = c.in_ok-push_element.ensures ∙ ap (λ l. l ++ element 0x04 number) (c.in_ok-contents.ensures.items ∙ c.version.ensures) in
    let contents = c.deref-2.ensures.value ∙ c.in_ok-extend_from_slice.ensures.items ∙ ap (λ l. l ++ c.deref.result.now) front in
    let part = c.deref.ensures.value ∙ c.in_ok-part.ensures in
    omega (arith, ec-most number c.deref.result.now c.deref-2.result.now contents, ap length part, part-most xy, size, c.requires)

pub returns : goal.returns
returns c =
    let number = c.args.number.now in
    let xy = c.args.xy.now in
    let size : length xy ≡ 96 = search rules in
    let front = c.in_ok-push_element.ensures ∙ ap (λ l. l ++ element 0x04 number) (c.in_ok-contents.ensures.items ∙ c.version.ensures) in
    let contents = c.deref-2.ensures.value ∙ c.in_ok-extend_from_slice.ensures.items ∙ ap (λ l. l ++ c.deref.result.now) front in
    let part = c.deref.ensures.value ∙ c.in_ok-part.ensures in
    let spelled = contents ∙ ap (λ p. (element 0x02 (1 ∷ []) ++ element 0x04 number) ++ p) part in
    let made = c.in_ok-push_element-2.ensures ∙ ap (λ l. l ++ element 0x30 c.deref-2.result.now) c.new-key.ensures.items in (
      made ∙ ec-written number (public_part xy) c.deref-2.result.now spelled,
      omega (
        arith,
        ap length made,
        element-most 0x30 c.deref-2.result.now,
        ec-most number c.deref.result.now c.deref-2.result.now contents,
        ap length part,
        part-most xy,
        size,
        c.requires,
      ),
    )

use Rattle.std.proofs.Common.{◌≡◌, [], length, sym, ap, ◌∙◌, arith}
use Rattle.std.proofs.lemmas.Bool.Decides.{nat_tests}
use Rattle.paseto_der.proofs.ElementLaws.{element-unique, element-whole}
use Rattle.paseto_pem.proofs.info.whole_element.Goals as goal

pub returns-in_err-element : goal.returns-in_err-element
returns-in_err-element c =
    rw c.from_residual.ensures
    (λ contents e. c.in_err-element.ensures contents [] (element-whole c.args.tag contents c.args.octets.now e))

pub returns-then-not-is_empty : goal.returns-then-not-is_empty
returns-then-not-is_empty c contents e =
    let element = c.in_ok-element.element in
    let parts = element-unique c.args.tag element.contents.now contents element.behind.now [] (sym c.in_ok-element.ensures ∙ element-whole c.args.tag contents _ e) in
    let none : length element.behind.now ≡ 0 = ap length parts.1 in
    grind (arith, nat_tests)

use Rattle.std.proofs.Common.{get_or, ◌+◌, ◌*◌, ◌++◌, ◌∙◌, sym, ap, arith}
use Rattle.paseto_der.specs.Element.{der_length}
use Rattle.paseto_der.proofs.ElementLaws.{none-two, some-two}
use Rattle.paseto_der.proofs.element.read_two.Goals as goal

pub returns-then-octets-lt3 : goal.returns-then-octets-lt3
returns-then-octets-lt3 c n behind e =
    let known = none-two n behind c.args.octets.now c.requires e in
    omega arith

pub returns-then-length-lt256 : goal.returns-then-length-lt256
returns-then-length-lt256 c n behind e =
    let known = none-two n behind c.args.octets.now c.requires e in
    omega arith

pub returns : goal.returns
returns c =
    some-two c.args.octets.now c.if-octets-lt3.false c.requires c.if-length-lt256.false (omega (arith, c.type_inv.octets 2))
    ∙ ap (λ d. der_length (256 * get_or c.args.octets.now 1 0 + get_or c.args.octets.now 2 0) ++ d) (sym c.split_at.ensures.back)

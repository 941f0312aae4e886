use Rattle.std.proofs.Common.{get_or, ◌++◌, ◌∙◌, sym, ap, arith}
use Rattle.paseto_der.specs.Element.{der_length}
use Rattle.paseto_der.proofs.ElementLaws.{none-one, some-one}
use Rattle.paseto_der.proofs.element.read_one.Goals as goal

pub returns-then-octets-lt2 : goal.returns-then-octets-lt2
returns-then-octets-lt2 c n behind e =
    let known = none-one n behind c.args.octets.now c.requires e in
    omega arith

pub returns-then-low-lt128 : goal.returns-then-low-lt128
returns-then-low-lt128 c n behind e =
    let known = none-one n behind c.args.octets.now c.requires e in
    omega arith

pub returns : goal.returns
returns c =
    some-one c.args.octets.now c.if-octets-lt2.false c.requires c.if-low-lt128.false (omega (arith, c.type_inv.octets 1))
    ∙ ap (λ d. der_length (get_or c.args.octets.now 1 0) ++ d) (sym c.split_at.ensures.back)

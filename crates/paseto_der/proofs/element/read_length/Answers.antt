use Rattle.std.proofs.Common.{get_or, ◌≡◌, ◌++◌, ◌<◌, ◌∙◌, length, sym, ap, arith}
use Rattle.std.proofs.lemmas.Bool.Decides.{nat_tests}
use Rattle.paseto_der.specs.Element.{der_length}
use Rattle.paseto_der.proofs.ElementLaws.{none-empty, none-other, some-short}
use Rattle.paseto_der.proofs.element.read_length.Goals as goal

pub returns-then-is_empty : goal.returns-then-is_empty
returns-then-is_empty c n behind e =
    let empty : length c.args.octets.now ≡ 0 = grind (arith, nat_tests) in
    none-empty n behind c.args.octets.now empty e

pub returns-then-first-lt128 : goal.returns-then-first-lt128
returns-then-first-lt128 c =
    let some : 0 < length c.args.octets.now = grind (arith, nat_tests) in
    some-short c.args.octets.now some c.if-first-lt128.true
    ∙ ap (λ d. der_length (get_or c.args.octets.now 0 0) ++ d) (sym c.split_at.ensures.back)

pub returns : goal.returns
returns c n behind e = none-other n behind c.args.octets.now c.if-first-lt128.false c.if-first.false c.if-first-2.false e

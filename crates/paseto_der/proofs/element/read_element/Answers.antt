use Rattle.std.proofs.Common.{◌≡◌, ◌++◌, ◌<◌, ◌∙◌, length, sym, rules, arith}
use Rattle.std.proofs.lemmas.Bool.Decides.{nat_tests}
use Rattle.paseto_der.proofs.ElementLaws.{element-first, element-long, element-of, element-rest}
use Rattle.paseto_der.proofs.element.read_element.Goals as goal

pub returns-then-is_empty : goal.returns-then-is_empty
returns-then-is_empty c contents behind e =
    let empty : length c.args.octets.now ≡ 0 = grind (arith, nat_tests) in
    let known = element-first c.args.tag contents behind c.args.octets.now e in
    omega arith

pub returns-then-octets-tag : goal.returns-then-octets-tag
returns-then-octets-tag c contents behind e =
    c.if-octets-tag.true (element-first c.args.tag contents behind c.args.octets.now e).1

pub returns-in_err-length : goal.returns-in_err-length
returns-in_err-length c =
    rw c.from_residual.ensures
    (λ contents behind e. c.in_err-length.ensures _ _ (c.split_at.ensures.back ∙ element-rest c.args.tag contents behind c.args.octets.now e))

pub returns-then-behind-length : goal.returns-then-behind-length
returns-then-behind-length c contents behind e =
    let rest = sym c.split_at.ensures.back ∙ c.in_ok-length.ensures in
    let long = element-long c.args.tag c.in_ok-length.field-0.length contents behind c.args.octets.now c.in_ok-length.field-0.behind.now e rest in
    omega arith

pub returns : goal.returns
returns c =
    let some : 0 < length c.args.octets.now = grind (arith, nat_tests) in
    let l = c.in_ok-length.field-0 in
    let parts = c.split_at-2.ensures in
    let split : l.behind.now ≡ c.split_at-2.result.0.now ++ c.split_at-2.result.1.now = search rules in
    element-of c.args.tag l.length c.split_at-2.result.0.now c.split_at-2.result.1.now c.args.octets.now l.behind.now some (search rules)
    (sym c.split_at.ensures.back ∙ c.in_ok-length.ensures) split parts.front_len

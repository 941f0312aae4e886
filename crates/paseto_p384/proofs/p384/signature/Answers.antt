use Rattle.std.proofs.Common.{◌∙◌, sym, ap}
use Rattle.paseto_p384.specs.Nonce.{drawn}
use Rattle.paseto_p384.specs.P384.{signed_by}
use Rattle.paseto_p384.proofs.Validity.{sign-first, sign-second}
use Rattle.paseto_p384.proofs.p384.signature.Goals as goal

pub returns-in-Some : goal.returns-in-Some
returns-in-Some c message hash =
    let private = c.args.private.now in
    let g = c.first_candidate-g.ensures message hash in
    let made = c.signed_by.ensures private message c.requires.private hash in
    sign-first private message _ _ g (sym c.in-Some.is ∙ made)

pub returns-in-None : goal.returns-in-None
returns-in-None c message hash =
    let private = c.args.private.now in
    let g = c.first_candidate-g.ensures message hash in
    let none = c.signed_by.ensures private message c.requires.private hash in
    let next = c.draw.ensures ∙ ap drawn c.retry.ensures in
    c.signed_by-in-None.ensures private message c.requires.private hash
    ∙ ap (signed_by private message) next
    ∙ sign-second private message _ g (sym c.in-None.is ∙ none)

use Rattle.std.proofs.Common.{ℕ, ◌+◌, ◌/◌, sym, ◌∙◌, ap, refl}
use Rattle.std.proofs.lemmas.Bool.{false≢true}
use Rattle.paseto_p384.specs.Element.{number}
use Rattle.paseto_weierstrass_laws.specs.Field.{power, prime}
use Rattle.paseto_p384.proofs.EncodingLaws.{point_at-none, point_at-some}
use Rattle.paseto_p384.proofs.encoding.point_at.Goals as goal

pub returns-then-not-is_equal : goal.returns-then-not-is_equal
returns-then-not-is_equal c =
    let x : ℕ = number c.args.x in
    let y = c.root-y.ensures ∙ ap (λ n. power n ((prime + 1) / 4)) c.right_side-square.ensures in
    point_at-none c.args.odd x (number c.root-y.result) y
    (λ h. false≢true (c.if-not-is_equal.ensures.1 (c.mul.ensures ∙ h ∙ sym c.right_side-square.ensures)))

pub returns : goal.returns
returns c =
    let x : ℕ = number c.args.x in
    let y = c.root-y.ensures ∙ ap (λ n. power n ((prime + 1) / 4)) c.right_side-square.ensures in
    let root = sym c.mul.ensures ∙ c.if-not-is_equal.ensures.0 refl ∙ c.right_side-square.ensures in
    rw (c.signed.ensures, c.one.ensures) (point_at-some c.args.odd x (number c.root-y.result) y root)

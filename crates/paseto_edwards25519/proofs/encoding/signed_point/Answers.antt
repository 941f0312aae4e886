use Rattle.std.proofs.Common.{◌≡◌, ◌≢◌, ◌%◌, sym, ◌∙◌, ap, refl, arith}
use Rattle.std.specs.Prelude.{Some}
use Rattle.std.proofs.lemmas.Bool.{false≢true}
use Rattle.paseto_edwards25519.specs.Encoding.{at}
use Rattle.paseto_edwards25519.specs.Field.{number}
use Rattle.paseto_edwards25519.proofs.CurveLaws.{opposite-at}
use Rattle.paseto_edwards25519.proofs.EncodingLaws.{point_negated, point_none, point_same}
use Rattle.paseto_edwards25519.proofs.encoding.signed_point.Goals as goal

pub returns-then-low-sign : goal.returns-then-low-sign
returns-then-low-sign c =
    let same : number c.args.x % 2 ≡ c.args.sign = omega (arith, c.to_halves-low.ensures.value, c.if-low-sign.true) in
    ap Some c.affine.ensures ∙ point_same (number c.args.y) c.args.sign (number c.args.x) same

pub returns-then-is_equal : goal.returns-then-is_equal
returns-then-is_equal c =
    let other : number c.args.x % 2 ≢ c.args.sign = omega (arith, c.to_halves-low.ensures.value, c.if-low-sign.false) in
    point_none (number c.args.y) c.args.sign (number c.args.x) other (c.if-is_equal.ensures.0 refl ∙ c.zero.ensures.value)

pub returns : goal.returns
returns c =
    let x = number c.args.x in
    let y = number c.args.y in
    let other : number c.args.x % 2 ≢ c.args.sign = omega (arith, c.to_halves-low.ensures.value, c.if-low-sign.false) in
    let point = c.affine-2.ensures ∙ ap (λ n. at n y) c.negative.ensures.value in
    ap Some point
    ∙ point_negated y c.args.sign x other (λ h. false≢true (c.if-is_equal.ensures.1 (h ∙ sym c.zero.ensures.value)))

pub affine-requires-2-clause-on_curve : goal.affine-requires-2-clause-on_curve
affine-requires-2-clause-on_curve c =
    rw c.negative.ensures.value (opposite-at (number c.args.x) (number c.args.y) c.requires.on_curve)

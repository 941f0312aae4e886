use Rattle.std.proofs.Common.{◌∙◌, ap₂, sym}
use Rattle.std.proofs.lemmas.Option.{IfSome_then}
use Rattle.paseto_edwards25519.specs.Encoding.{root_at, square_root}
use Rattle.paseto_edwards25519.specs.Field.{minus, number, plus, times}
use Rattle.paseto_edwards25519.proofs.DecodingLaws.{root-on_curve}
use Rattle.paseto_edwards25519.proofs.FieldLaws.{number-below}
use Rattle.paseto_edwards25519.proofs.encoding.root_at.Goals as goal

pub returns-clause-value : goal.returns-clause-value
unfolding root_at
returns-clause-value c =
    let squared = c.square-square_y.ensures.value in
    let u = c.carry-u.ensures.value ∙ c.sub.ensures.value ∙ ap₂ minus squared c.one.ensures.value in
    let product = c.mul.ensures.value ∙ ap₂ times c.curve_d.ensures.value squared in
    let v = c.add-v.ensures.value ∙ ap₂ plus product c.one-2.ensures.value in
    c.square_root.ensures.value ∙ ap₂ square_root u v

pub returns-clause-on_curve : goal.returns-clause-on_curve
returns-clause-on_curve c =
    let y = number c.args.y in
    let squared = c.square-square_y.ensures.value in
    let u = c.carry-u.ensures.value ∙ c.sub.ensures.value ∙ ap₂ minus squared c.one.ensures.value in
    let product = c.mul.ensures.value ∙ ap₂ times c.curve_d.ensures.value squared in
    let v = c.add-v.ensures.value ∙ ap₂ plus product c.one-2.ensures.value in
    IfSome_then c.square_root.result c.square_root.ensures.root
    (λ x root. root-on_curve (number x) y (number-below x) (number-below c.args.y) (rw (sym v, sym u) root))

use Rattle.std.proofs.Common.{sym, ◌∙◌, ap, refl}
use Rattle.std.specs.Prelude.{Some}
use Rattle.std.proofs.lemmas.Bool.{false≢true}
use Rattle.paseto_edwards25519.specs.Field.{number, times}
use Rattle.paseto_edwards25519.proofs.FieldLaws.{number-below}
use Rattle.paseto_edwards25519.proofs.RootLaws.{turned_root}
use Rattle.paseto_edwards25519.proofs.EncodingLaws.{root_first, root_none, root_second}
use Rattle.paseto_edwards25519.proofs.encoding.square_root.Goals as goal

pub returns-then-is_equal-clause-value : goal.returns-then-is_equal-clause-value
returns-then-is_equal-clause-value c =
    let v = number c.args.v in
    let product = c.mul-product.ensures.value ∙ ap (times v) c.square.ensures.value in
    root_first _ v _ c.candidate-x.ensures.value (sym product ∙ c.if-is_equal.ensures.0 refl)

pub returns-then-is_equal-2-clause-value : goal.returns-then-is_equal-2-clause-value
returns-then-is_equal-2-clause-value c =
    let v = number c.args.v in
    let product = c.mul-product.ensures.value ∙ ap (times v) c.square.ensures.value in
    let root = c.mul.ensures.value ∙ ap (times (number c.candidate-x.result)) c.square_root_of_minus_one.ensures.value in
    ap Some root
    ∙ root_second _ v _ c.candidate-x.ensures.value (λ h. false≢true (c.if-is_equal.ensures.1 (product ∙ h)))
    (sym product ∙ c.if-is_equal-2.ensures.0 refl ∙ c.negative.ensures.value)

pub returns-clause-value : goal.returns-clause-value
returns-clause-value c =
    let v = number c.args.v in
    let product = c.mul-product.ensures.value ∙ ap (times v) c.square.ensures.value in
    root_none _ v _ c.candidate-x.ensures.value (λ h. false≢true (c.if-is_equal.ensures.1 (product ∙ h)))
    (λ h. false≢true (c.if-is_equal-2.ensures.1 (product ∙ h ∙ sym c.negative.ensures.value)))

pub returns-then-is_equal-2-clause-root : goal.returns-then-is_equal-2-clause-root
returns-then-is_equal-2-clause-root c =
    let v = number c.args.v in
    let product = c.mul-product.ensures.value ∙ ap (times v) c.square.ensures.value in
    let opposed = sym product ∙ c.if-is_equal-2.ensures.0 refl ∙ c.negative.ensures.value in
    rw (c.mul.ensures.value, c.square_root_of_minus_one.ensures.value)
    (turned_root (number c.args.u) v (number c.candidate-x.result) (number-below c.args.u) opposed)

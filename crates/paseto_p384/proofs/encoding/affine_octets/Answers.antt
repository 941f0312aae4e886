use Rattle.std.proofs.Common.{ℕ, ◌∙◌}
use Rattle.paseto_montgomery.specs.Words.{value}
use Rattle.paseto_p384.specs.Element.{number}
use Rattle.paseto_p384.specs.Point.{coordinates}
use Rattle.paseto_p384.proofs.EncodingLaws.{affine-is}
use Rattle.paseto_p384.proofs.encoding.affine_octets.Goals as goal

pub returns : goal.returns
returns c =
    let x : ℕ = value c.to_words-x.result 6 in
    let y : ℕ = value c.to_words-y.result 6 in
    c.halves.ensures
    ∙ affine-is (coordinates c.args.p) x y (number c.inverse-z_inverse.result) c.inverse-z_inverse.ensures
    (c.to_words-x.ensures ∙ c.mul.ensures) (c.to_words-y.ensures ∙ c.mul-2.ensures)

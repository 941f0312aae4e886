use Rattle.std.proofs.Common.{ℕ, ◌%◌, ◌∙◌, ap}
use Rattle.paseto_montgomery.specs.Words.{value}
use Rattle.paseto_weierstrass_laws.specs.Curve.{order}
use Rattle.paseto_weierstrass_laws.specs.Field.{times}
use Rattle.paseto_p384.specs.Point.{coordinates}
use Rattle.paseto_p384.proofs.EcdsaLaws.{first-is}
use Rattle.paseto_p384.proofs.ecdsa.first.Goals as goal

pub returns-clause-value : goal.returns-clause-value
returns-clause-value c =
    let p = coordinates c.multiply_base-p.result in
    let k : ℕ = value c.args.k.now 6 in
    let x = c.to_words-x.ensures ∙ c.mul.ensures ∙ ap (times p.x) c.inverse.ensures in
    c.to_words.ensures.value ∙ c.from_words.ensures ∙ ap (λ n. n % order) x
    ∙ first-is p k c.multiply_base-p.ensures

use Rattle.std.proofs.Common.{◌∙◌, ap, ap₂}
use Rattle.std.proofs.Math.Nat.{mod-eq_of_lt}
use Rattle.paseto_p384.specs.Ecdsa.{second}
use Rattle.paseto_p384.specs.Scalar.{scalar_inverse, scalar_plus, scalar_times}
use Rattle.paseto_p384.proofs.ecdsa.second.Goals as goal

pub returns-clause-value : goal.returns-clause-value
unfolding second
returns-clause-value c =
    let r = c.from_words.ensures ∙ mod-eq_of_lt c.requires.first in
    let d = c.from_words-2.ensures ∙ mod-eq_of_lt c.requires.private in
    let k = c.from_words-4.ensures ∙ mod-eq_of_lt c.requires.nonce in
    let product = c.mul-product.ensures ∙ ap₂ scalar_times r d in
    let sum = c.add-sum.ensures ∙ ap₂ scalar_plus c.from_words-3.ensures product in
    let inverse = c.inverse-k_inverse.ensures ∙ ap scalar_inverse k in
    c.to_words.ensures.value ∙ c.mul.ensures ∙ ap₂ scalar_times inverse sum

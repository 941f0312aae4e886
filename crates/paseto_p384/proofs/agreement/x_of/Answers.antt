use Rattle.std.proofs.Common.{◌≡◌, length, rules, ◌∙◌, ap}
use Rattle.paseto_montgomery.specs.Octets.{i2osp}
use Rattle.paseto_weierstrass_laws.specs.Field.{times}
use Rattle.paseto_p384.specs.Agreement.{x_of}
use Rattle.paseto_p384.specs.Element.{number}
use Rattle.paseto_p384.proofs.agreement.x_of.Goals as goal

pub returns : goal.returns
unfolding x_of
returns c =
    let size : length c.to_words-x.result ≡ 6 = search rules in
    let x = c.to_words-x.ensures ∙ c.mul.ensures ∙ ap (times (number c.args.p.x)) c.inverse.ensures in
    rw size at c.to_octets.ensures ∙ ap (λ n. i2osp n 48) x

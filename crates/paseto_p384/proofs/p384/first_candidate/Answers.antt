use Rattle.std.proofs.Common.{◌≡◌, ◌%◌, ◌∙◌, length, ap, rules}
use Rattle.paseto_weierstrass_laws.specs.Curve.{order}
use Rattle.paseto_p384.specs.Nonce.{drawn, started}
use Rattle.paseto_p384.specs.P384.{first_candidate}
use Rattle.paseto_p384.proofs.p384.first_candidate.Goals as goal

pub returns : goal.returns
unfolding first_candidate
returns c message h =
    let size : length c.to_words.result ≡ 6 = search rules in
    let number = c.to_words.ensures.value ∙ c.from_words.ensures ∙ ap (λ n. n % order) h in
    let octets = rw (size, number) at c.to_octets.ensures in
    c.draw.ensures ∙ ap drawn (c.start.ensures ∙ ap (started c.args.private.now) octets)

use Rattle.std.proofs.Common.{◌≡◌, List, ℕ, IsTrue, length, rules, subst, sym, ◌∙◌}
use Rattle.std.proofs.lemmas.Bool.{false≢true}
use Rattle.rusty_paseto_parts.specs.PublicKey.{is_compressed}
use Rattle.paseto_p384.specs.P384.{p384_public}
use Rattle.paseto_keys.proofs.HalfLaws.{compressed, is_public}
use Rattle.paseto_keys.proofs.public_half.p384_half.Goals as goal

-- the public key of a private key is a compressed point, so that none is refused
pub returns-clause-err : goal.returns-clause-err
returns-clause-err c =
    let octets = c.in_ok-from_slice.field-0.items in
    let half : octets ≡ p384_public c.as_bytes.result.now = c.in_ok-from_slice.ensures.items ∙ c.in-Ok.ensures.ok.1 in
    let point : IsTrue (is_compressed octets) = subst (λ (l : List ℕ). IsTrue (is_compressed l)) (sym half) (compressed c.as_bytes.result.now) in
    let size : length octets ≡ 49 = search rules in
    absurd (false≢true (c.in-Err.ensures.taken.1 (is_public octets size point)))

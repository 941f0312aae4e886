use Rattle.std.proofs.Common.{◌≡◌, ℕ, ◌%◌, ◌/◌, ◌^◌, length, sym, ◌∙◌, ap, rules, arith}
use Rattle.paseto_p384.specs.Element.{number}
use Rattle.paseto_weierstrass_laws.specs.Field.{minus}
use Rattle.paseto_p384.proofs.EncodingLaws.{signed-other, signed-same}
use Rattle.paseto_p384.proofs.encoding.signed.Goals as goal

lowest : (v n b : ℕ) → v ≡ n → b ≡ v / 2 ^ 0 % 2 → n % 2 ≡ b
lowest v n b e f = omega (arith, e, f)

pub returns-then-bit-odd : goal.returns-then-bit-odd
returns-then-bit-odd c =
    let size : length c.to_words.result ≡ 6 = search rules in
    let bit = lowest _ (number c.args.y) _ c.to_words.ensures (rw size at c.bit.ensures.value) in
    signed-same c.args.odd (number c.args.y) (bit ∙ c.if-bit-odd.true)

pub returns : goal.returns
returns c =
    let size : length c.to_words.result ≡ 6 = search rules in
    let bit = lowest _ (number c.args.y) _ c.to_words.ensures (rw size at c.bit.ensures.value) in
    c.sub.ensures ∙ ap (λ n. minus n (number c.args.y)) c.zero.ensures
    ∙ signed-other c.args.odd (number c.args.y) (λ h. c.if-bit-odd.false (sym bit ∙ h))

use Rattle.std.proofs.Common.{◌≡◌, ℕ, ◌+◌, ◌%◌, List, [], ◌∷◌, ◌++◌, length, refl, ◌∙◌, ap₂, rules, arith}
use Rattle.std.proofs.Math.ListN.{set}
use Rattle.paseto_montgomery.specs.Octets.{i2osp}
use Rattle.paseto_montgomery.specs.Words.{value}
use Rattle.paseto_p384.specs.Element.{number}
use Rattle.paseto_p384.specs.Point.{coordinates}
use Rattle.paseto_p384.proofs.EncodingLaws.{encoded-is}
use Rattle.paseto_p384.proofs.encoding.encode.Goals as goal

pub returns : goal.returns
returns c =
    let p = coordinates c.args.p in
    let inverse : ℕ = number c.inverse-z_inverse.result in
    let x : ℕ = value c.to_words-x.result 6 in
    let y : ℕ = value c.to_words-y.result 6 in
    let size_x : length c.to_words-x.result ≡ 6 = search rules in
    let size_y : length c.to_words-y.result ≡ 6 = search rules in
    let first = c.split_at_mut-first.ensures.front in
    let back = c.split_at_mut-first.ensures.back in
    let parity : c.bit.result ≡ y % 2 = omega (arith, rw size_y at c.bit.ensures.value) in
    let head : set c.split_at_mut-first.result.0.now 0 (2 + c.bit.result) ≡ (2 + y % 2) ∷ [] = rw (first, parity) refl in
    let rest : c.to_octets.new.octets ≡ i2osp x 48 = rw (size_x, back) at c.to_octets.ensures in
    ap₂ (λ (a b : List ℕ). a ++ b) head rest
    ∙ encoded-is p x y inverse c.inverse-z_inverse.ensures (c.to_words-x.ensures ∙ c.mul.ensures) (c.to_words-y.ensures ∙ c.mul-2.ensures)

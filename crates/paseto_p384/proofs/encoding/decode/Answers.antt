use Rattle.std.proofs.Common.{◌≤◌, ℕ, ◌%◌, ◌<◌, slice_index, ◌∙◌, ap, refl, arith}
use Rattle.std.proofs.lemmas.Bool.{false≢true}
use Rattle.std.proofs.Math.Nat.{mod-eq_of_lt}
use Rattle.paseto_montgomery.specs.Octets.{os2ip}
use Rattle.paseto_montgomery.specs.Words.{value}
use Rattle.paseto_p384.specs.Encoding.{point_at}
use Rattle.paseto_weierstrass_laws.specs.Field.{prime}
use Rattle.paseto_p384.proofs.EncodingLaws.{decoded-above, decoded-at, decoded-first}
use Rattle.paseto_p384.proofs.encoding.decode.Goals as goal

pub returns-then-first-ne1 : goal.returns-then-first-ne1
returns-then-first-ne1 c = decoded-first c.args.octets.now c.if-first-ne1.true

pub returns-then-not-is_less : goal.returns-then-not-is_less
returns-then-not-is_less c =
    let x : ℕ = value c.from_octets-x.result 6 in
    let number = c.from_octets-x.ensures ∙ ap os2ip c.split_at.ensures.back in
    let refused : x < prime → ⊥ = λ h. false≢true (c.if-not-is_less.ensures.1 (rw c.prime_words.ensures h)) in
    let above : prime ≤ x = grind (arith, refused) in
    decoded-above c.args.octets.now x c.if-first-ne1.false number above

pub returns : goal.returns
returns c =
    let x : ℕ = value c.from_octets-x.result 6 in
    let number = c.from_octets-x.ensures ∙ ap os2ip c.split_at.ensures.back in
    let below : x < prime = rw c.prime_words.ensures at c.if-not-is_less.ensures.0 refl in
    c.point_at.ensures ∙ ap (point_at (slice_index c.args.octets.now 0 % 2)) (c.from_words.ensures ∙ mod-eq_of_lt below)
    ∙ decoded-at c.args.octets.now x c.if-first-ne1.false number below

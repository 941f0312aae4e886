use Rattle.std.proofs.Common.{◌≤◌, ℕ, ◌+◌, ◌*◌, ◌/◌, ◌%◌, ◌^◌, ◌<◌, ◌∙◌, ap, refl, arith}
use Rattle.std.proofs.lemmas.Bool.{false≢true}
use Rattle.paseto_edwards25519.specs.Encoding.{point_of}
use Rattle.paseto_edwards25519.specs.Field.{number}
use Rattle.paseto_edwards_laws.specs.Edwards25519.{prime}
use Rattle.paseto_edwards25519.proofs.EncodingLaws.{decoded_at, decoded_none, not_below, point_of_none, split_sign}
use Rattle.paseto_edwards25519.proofs.encoding.decode.Goals as goal

pub returns-then-not-is_below_prime : goal.returns-then-not-is_below_prime
returns-then-not-is_below_prime c =
    let low : ℕ = c.halves-low.result.0 in
    let high : ℕ = c.halves-low.result.1 in
    let refused : low + 2 ^ 128 * (high % 2 ^ 127) < prime → ⊥ = λ h. false≢true (c.if-not-is_below_prime.ensures.1 h) in
    let least : prime ≤ low + 2 ^ 128 * (high % 2 ^ 127) = grind (arith, refused) in
    decoded_none _ (not_below _ low high (omega arith) c.halves-low.ensures least)

pub returns-in-Some : goal.returns-in-Some
returns-in-Some c =
    let high : ℕ = c.halves-low.result.1 in
    let y = number c.from_halves-y.result in
    let parts = split_sign _ c.halves-low.result.0 high y c.halves-low.ensures (c.if-not-is_below_prime.ensures.0 refl) c.from_halves-y.ensures.value in
    c.signed_point.ensures ∙ ap (point_of y (high / 2 ^ 127)) c.in-Some.ensures.value
    ∙ decoded_at c.args.bytes.now y (high / 2 ^ 127) parts.0 parts.1 parts.2

pub returns-in-None : goal.returns-in-None
returns-in-None c =
    let high : ℕ = c.halves-low.result.1 in
    let y = number c.from_halves-y.result in
    let parts = split_sign _ c.halves-low.result.0 high y c.halves-low.ensures (c.if-not-is_below_prime.ensures.0 refl) c.from_halves-y.ensures.value in
    point_of_none y (high / 2 ^ 127) ∙ ap (point_of y (high / 2 ^ 127)) c.in-None.ensures.value
    ∙ decoded_at c.args.bytes.now y (high / 2 ^ 127) parts.0 parts.1 parts.2

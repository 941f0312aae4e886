use Rattle.std.proofs.Common.{◌%◌, ◌∙◌, ap, ap₂, arith}
use Rattle.paseto_edwards_laws.specs.Edwards25519.{prime}
use Rattle.paseto_edwards25519.specs.Extended.{inverse}
use Rattle.paseto_edwards25519.specs.Field.{minus, plus, times}
use Rattle.paseto_edwards25519.specs.Scalar.{bytes32, number32}
use Rattle.paseto_x25519.specs.Conversion.{montgomery}
use Rattle.paseto_x25519.proofs.LadderLaws.{masked-is}
use Rattle.paseto_x25519.proofs.conversion.montgomery.Goals as goal

pub returns : goal.returns
unfolding montgomery
returns c =
    let masked = masked-is _ _ (number32 c.args.public.now) (omega arith) c.halves-low.ensures in
    let y = c.from_halves-y.ensures.value ∙ ap (λ n. n % prime) masked in
    let above = c.add.ensures.value ∙ ap₂ (λ a b. plus a b) c.one.ensures.value y in
    let below = c.inverse.ensures.value ∙ ap (λ n. inverse n) (c.sub.ensures.value ∙ ap₂ (λ a b. minus a b) c.one-2.ensures.value y) in
    c.bytes32.ensures
    ∙ ap (λ n. bytes32 n) (c.to_halves-low.ensures.value ∙ c.mul-u.ensures.value ∙ ap₂ (λ a b. times a b) above below)

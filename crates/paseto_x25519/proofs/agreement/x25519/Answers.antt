use Rattle.std.proofs.Common.{◌%◌, ◌∙◌, ap, ap₂, arith}
use Rattle.paseto_edwards_laws.specs.Edwards25519.{prime}
use Rattle.paseto_edwards25519.specs.Scalar.{bytes32, number32}
use Rattle.paseto_x25519.specs.Ladder.{ladder}
use Rattle.paseto_x25519.proofs.LadderLaws.{masked-is}
use Rattle.paseto_x25519.proofs.agreement.x25519.Goals as goal

pub returns : goal.returns
returns c =
    let masked = masked-is _ _ (number32 c.args.u.now) (omega arith) c.halves-low.ensures in
    let scalar = c.halves.ensures ∙ ap (λ k. number32 k) c.clamped.ensures in
    c.bytes32.ensures
    ∙ ap (λ n. bytes32 n) (c.to_halves-low.ensures.value ∙ c.ladder.ensures.value
    ∙ ap₂ (λ k u. ladder k u) scalar (c.from_halves-x1.ensures.value ∙ ap (λ n. n % prime) masked))

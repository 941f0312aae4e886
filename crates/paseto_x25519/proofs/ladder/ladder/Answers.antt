use Rattle.std.proofs.Common.{◌≡◌, ℕ, ◌+◌, ◌*◌, ◌^◌, ◌∙◌, ap, ap₂, arith, add-one}
use Rattle.paseto_edwards25519.specs.Field.{number}
use Rattle.paseto_x25519.specs.Ladder.{quotient, turned, turns}
use Rattle.paseto_x25519.proofs.LadderLaws.{turns-first, turns-next}
use Rattle.paseto_x25519.proofs.ladder.ladder.Goals as goal

pub turns-init : goal.turns-init
turns-init c = c.start-n.ensures ∙ turns-first _ _

pub turns-preserved : goal.turns-preserved
turns-preserved c =
    let x1 = number c.args.x1 in
    rw add-one (c.turned-n.ensures ∙ ap₂ (λ b n. turned x1 b n) c.bit.ensures.value c.turns.invariant ∙ turns-next _ x1 c.turns.t)

pub returns-clause-value : goal.returns-clause-value
returns-clause-value c =
    let k : ℕ = c.args.k.0 + 2 ^ 128 * c.args.k.1 in
    let ended : c.turns.t ≡ 255 = omega arith in
    c.quotient.ensures.value ∙ ap (λ n. quotient n) (c.turns.invariant ∙ ap (λ t. turns k (number c.args.x1) t) ended)

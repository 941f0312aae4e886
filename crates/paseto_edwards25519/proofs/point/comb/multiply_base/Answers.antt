use Rattle.paseto_edwards_laws.proofs.CurveLaws.{base-point}
use Rattle.std.proofs.Common.{◌≡◌, ℕ, ◌+◌, ◌*◌, ◌^◌, ◌<◌, sym, ◌∙◌, ◌-◌, ap, subst, add-one, arith}
use Rattle.paseto_edwards_laws.specs.Edwards25519.{base}
use Rattle.paseto_edwards25519.specs.Curve.{multiple}
use Rattle.paseto_edwards25519.specs.Digits.{row_sum, turn_sum}
use Rattle.paseto_edwards25519.specs.Point.{point}
use Rattle.paseto_edwards25519.specs.Scalar.{number32}
use Rattle.paseto_edwards25519.proofs.CurveLaws.{multiple-none}
use Rattle.paseto_edwards25519.proofs.DigitLaws.{turn-first, turn-more, turns_number}
use Rattle.paseto_edwards25519.proofs.MultipleLaws.{multiple-sixteen}
use Rattle.paseto_edwards25519.proofs.point.comb.multiply_base.Goals as goal

pub turns-init : goal.turns-init
turns-init c =
    c.add_rows-sum.ensures 0 (c.identity.ensures ∙ sym (multiple-none base))
    ∙ ap (λ n. multiple (0 + row_sum n 3 16) base) c.halves-number.ensures ∙ ap (λ k. multiple k base) (turn-first (number32 c.args.scalar.now))

pub turns-preserved : goal.turns-preserved
turns-preserved c =
    let n : ℕ = number32 c.args.scalar.now in
    let i : ℕ = c.turns.i in
    let shifted = multiple-sixteen (turn_sum n i) base _ _ base-point c.sixteen_times.ensures (c.flattened.ensures ∙ c.turns.invariant) in
    rw add-one (c.add_rows-sum-in-turns.ensures (16 * turn_sum n i) shifted
    ∙ ap (λ m. multiple (16 * turn_sum n i + row_sum m (3 - i) 16) base) c.halves-number.ensures
    ∙ ap (λ k. multiple k base) (turn-more n i))

pub returns : goal.returns
returns c =
    let n : ℕ = number32 c.args.scalar.now in
    let low : n < 2 ^ 256 = omega (arith, c.halves-number.ensures) in
    let ended : c.turns.i ≡ 4 = omega arith in
    c.flattened-2.ensures ∙ subst (λ i. point c.turns.sum ≡ multiple (turn_sum n i) base) ended c.turns.invariant
    ∙ ap (λ k. multiple k base) (turns_number n low)

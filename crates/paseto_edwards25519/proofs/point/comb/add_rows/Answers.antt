use Rattle.std.proofs.Common.{◌≡◌, ℕ, ◌+◌, ◌*◌, ◌^◌, ◌∙◌, ap, subst, add-one, arith}
use Rattle.paseto_edwards_laws.specs.Edwards25519.{base}
use Rattle.paseto_edwards25519.specs.Curve.{multiple}
use Rattle.paseto_edwards25519.specs.Digits.{row_sum}
use Rattle.paseto_edwards25519.specs.Point.{point}
use Rattle.paseto_edwards_laws.proofs.CurveLaws.{base-point}
use Rattle.paseto_edwards25519.proofs.DigitLaws.{row-more, row-none}
use Rattle.paseto_edwards25519.proofs.MultipleLaws.{multiple-next}
use Rattle.paseto_edwards25519.proofs.point.comb.add_rows.Goals as goal

pub rows-init : goal.rows-init
rows-init c n start = start ∙ ap (λ k. multiple k base) (row-none n _ c.args.turn)

pub rows-preserved : goal.rows-preserved
rows-preserved c n start =
    let number : ℕ = c.args.number.0 + 2 ^ 128 * c.args.number.1 in
    let i : ℕ = c.rows.i in
    let place = λ (k : ℕ). k * 2 ^ (16 * i) in
    let next = c.multiple_at-next.ensures.is ∙ ap (λ k. multiple (place k) base) c.digit.ensures.value in
    rw add-one (c.to_extended-sum.ensures
    ∙ multiple-next _ _ base _ _ _ base-point c.add_affine.ensures (c.rows.invariant n start) next
    ∙ ap (λ k. multiple k base) (row-more n number c.args.turn i))

pub returns : goal.returns
returns c n start =
    let ended : c.rows.i ≡ 16 = omega arith in
    subst (λ i. point c.rows.sum ≡ multiple (n + row_sum (c.args.number.0 + 2 ^ 128 * c.args.number.1) c.args.turn i) base) ended
    (c.rows.invariant n start)

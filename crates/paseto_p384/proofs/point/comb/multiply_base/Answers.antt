use Rattle.std.proofs.Common.{◌≡◌, ℕ, ◌*◌, ◌^◌, ◌<◌, sym, ◌∙◌, ap, subst, add-one, arith}
use Rattle.paseto_montgomery.specs.Words.{value, weight}
use Rattle.paseto_montgomery.proofs.WordsLaws.{value-below}
use Rattle.paseto_primes.specs.Digits.{turn_sum}
use Rattle.paseto_primes.proofs.DigitLaws.{turn-first, turn-more, turns_number}
use Rattle.paseto_weierstrass_laws.specs.Multiples.{IsMultiple}
use Rattle.paseto_weierstrass_laws.specs.Point.{base}
use Rattle.paseto_weierstrass_laws.proofs.MultipleLaws.{multiple-neutral}
use Rattle.paseto_weierstrass_laws.proofs.PointLaws.{base-is_point}
use Rattle.paseto_p384.specs.Point.{coordinates}
use Rattle.paseto_p384.proofs.point.comb.multiply_base.Goals as goal

pub turns-init : goal.turns-init
turns-init c =
    let v : ℕ = value c.args.k.now 6 in
    let start : IsMultiple base (coordinates c.neutral.result) 0 = rw c.neutral.ensures (multiple-neutral base) in
    subst (IsMultiple base (coordinates c.add_rows-sum.result)) (turn-first v 24) (c.add_rows-sum.ensures 0 start)

pub turns-preserved : goal.turns-preserved
turns-preserved c =
    let v : ℕ = value c.args.k.now 6 in
    let i : ℕ = c.turns.i in
    let shifted = c.sixteen_times.ensures base (turn_sum v 24 i) base-is_point c.turns.invariant in
    subst (IsMultiple base (coordinates c.add_rows-sum-in-turns.result)) (turn-more v 24 i ∙ ap (turn_sum v 24) (sym (add-one i)))
    (c.add_rows-sum-in-turns.ensures (16 * turn_sum v 24 i) shifted)

pub returns : goal.returns
unfolding weight
returns c =
    let v : ℕ = value c.args.k.now 6 in
    let low : v < 2 ^ 384 = value-below c.args.k.now 6 c.fits-k in
    let ended : c.turns.i ≡ 4 = omega arith in
    subst (IsMultiple base (coordinates c.turns.sum)) (ap (turn_sum v 24) ended ∙ turns_number v 24 low) c.turns.invariant

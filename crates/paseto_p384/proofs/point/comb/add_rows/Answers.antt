use Rattle.std.proofs.Common.{◌≡◌, ℕ, ◌+◌, ◌*◌, ◌/◌, ◌%◌, ◌^◌, length, sym, ◌∙◌, ap, subst, add-one, rules, arith}
use Rattle.paseto_montgomery.specs.Words.{value}
use Rattle.paseto_primes.specs.Digits.{row_sum}
use Rattle.paseto_primes.proofs.DigitLaws.{power-of_two, row-more, row-none}
use Rattle.paseto_weierstrass_laws.specs.Multiples.{IsMultiple}
use Rattle.paseto_weierstrass_laws.specs.Point.{base}
use Rattle.paseto_p384.specs.Point.{coordinates}
use Rattle.paseto_p384.proofs.point.comb.add_rows.Goals as goal

pub rows-init : goal.rows-init
rows-init c n start = subst (IsMultiple base (coordinates c.args.p)) (row-none n (value c.args.k.now 6) c.args.turn) start

pub rows-preserved : goal.rows-preserved
rows-preserved c n start =
    let size : length c.args.k.now ≡ 6 = search rules in
    let v : ℕ = value c.args.k.now 6 in
    let i : ℕ = c.rows.i in
    let at : ℕ = 4 * i + c.args.turn in
    let is = rw size at c.window.ensures.value ∙ ap (λ m. v / m % 16) (power-of_two at) in
    let sum = c.add_digit-sum.ensures (n + row_sum v c.args.turn i) (c.rows.invariant n start) in
    let number : n + row_sum v c.args.turn i + c.window.result * 2 ^ (16 * i) ≡ n + row_sum v c.args.turn (i + 1) =
    ap (λ d. n + row_sum v c.args.turn i + d * 2 ^ (16 * i)) is ∙ row-more n v c.args.turn i
    ∙ ap (λ k. n + row_sum v c.args.turn k) (sym (add-one i)) in
    subst (IsMultiple base (coordinates c.add_digit-sum.result)) number sum

pub returns : goal.returns
returns c n start =
    let ended : c.rows.i ≡ 24 = omega arith in
    subst (λ i. IsMultiple base (coordinates c.rows.sum) (n + row_sum (value c.args.k.now 6) c.args.turn i)) ended
    (c.rows.invariant n start)

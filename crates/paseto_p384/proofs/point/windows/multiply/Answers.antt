use Rattle.std.proofs.Common.{◌≡◌, ℕ, suc, ◌+◌, ◌-◌, ◌*◌, ◌/◌, ◌%◌, ◌^◌, ◌<◌, length, sym, ◌∙◌, ap, subst, rules, arith}
use Rattle.std.proofs.Math.Nat.{div-eq_of_lt, div-one}
use Rattle.paseto_montgomery.specs.Words.{value, weight}
use Rattle.paseto_montgomery.proofs.WordsLaws.{value-below}
use Rattle.paseto_primes.specs.Digits.{digit}
use Rattle.paseto_primes.proofs.DigitLaws.{digit-step, power-of_two}
use Rattle.paseto_weierstrass_laws.specs.Multiples.{IsMultiple}
use Rattle.paseto_weierstrass_laws.proofs.MultipleLaws.{multiple-neutral}
use Rattle.paseto_p384.specs.Point.{coordinates}
use Rattle.paseto_p384.proofs.point.windows.multiply.Goals as goal

pub windows-init : goal.windows-init
unfolding weight
windows-init c =
    let p = coordinates c.args.p in
    let low : value c.args.k.now 6 < 16 ^ 96 = value-below c.args.k.now 6 c.fits-k in
    let none : IsMultiple p (coordinates c.neutral-sum.result) 0 = rw c.neutral-sum.ensures (multiple-neutral p) in
    subst (IsMultiple p (coordinates c.neutral-sum.result)) (sym (div-eq_of_lt low)) none

pub sixteen_times-requires : goal.sixteen_times-requires
sixteen_times-requires c = c.windows.invariant.point

pub windows-preserved : goal.windows-preserved
windows-preserved c =
    let size : length c.args.k.now ≡ 6 = search rules in
    let p = coordinates c.args.p in
    let v : ℕ = value c.args.k.now 6 in
    let i : ℕ = c.windows.i in
    let at : ℕ = 95 - i in
    let before : 96 - i ≡ suc at = omega arith in
    let after : at ≡ 96 - (i + 1) = omega arith in
    let place : 96 - 1 - i ≡ at = omega arith in
    let is : c.window.result ≡ digit v at =
    rw size at c.window.ensures.value ∙ ap (λ k. v / 2 ^ (4 * k) % 16) place ∙ ap (λ m. v / m % 16) (power-of_two at) in
    let shifted = c.sixteen_times.ensures p (v / 16 ^ (96 - i)) c.requires c.windows.invariant in
    let sum = c.add_listed-sum.ensures p (16 * (v / 16 ^ (96 - i))) c.requires c.multiples-table.ensures shifted in
    let number : 16 * (v / 16 ^ (96 - i)) + c.window.result ≡ v / 16 ^ (96 - (i + 1)) =
    ap (λ k. 16 * (v / 16 ^ k) + c.window.result) before ∙ ap (λ d. 16 * (v / 16 ^ suc at) + d) is ∙ digit-step v at
    ∙ ap (λ k. v / 16 ^ k) after in
    subst (IsMultiple p (coordinates c.add_listed-sum.result)) number sum

pub returns : goal.returns
returns c =
    let v : ℕ = value c.args.k.now 6 in
    let ended : 96 - c.windows.i ≡ 0 = omega arith in
    subst (IsMultiple (coordinates c.args.p) (coordinates c.windows.sum)) (ap (λ k. v / 16 ^ k) ended ∙ div-one v) c.windows.invariant

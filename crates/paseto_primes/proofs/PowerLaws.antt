-- Powers modulo a number.
use Rattle.std.proofs.Common.{◌≡◌, ℕ, zero, suc, ◌+◌, ◌*◌, ◌/◌, ◌%◌, ◌^◌, ◌<◌, sym, ◌∙◌, ap, pow-add, pow-suc, arith}
use Rattle.std.proofs.Math.Nat.{pow-zero}
use Rattle.std.proofs.lemmas.Nat.{mul-mod_second, mul-pow, pow-mod}
use Rattle.paseto_primes.specs.Power.{raised}

pub power-power : (a h k : ℕ) → (a ^ h) ^ k ≡ a ^ (k * h)
power-power a h zero = let none : 0 ≡ 0 * h = omega arith in pow-zero (a ^ h) ∙ sym (pow-zero a) ∙ ap (λ w. a ^ w) none
power-power a h (suc k) =
    let e : suc k * h ≡ k * h + h = omega arith in
    pow-suc (a ^ h) k ∙ ap (λ w. w * a ^ h) (power-power a h k) ∙ sym (pow-add a (k * h) h) ∙ ap (λ w. a ^ w) (sym e)

half-power : (x n : ℕ) → x ^ (n % 2) * (x * x) ^ (n / 2) ≡ x ^ n
half-power x n =
    let parts : n % 2 + (n / 2 + n / 2) ≡ n = omega arith in
    ap (λ k. x ^ (n % 2) * k) (mul-pow x x (n / 2) ∙ sym (pow-add x (n / 2) (n / 2)))
    ∙ sym (pow-add x (n % 2) (n / 2 + n / 2)) ∙ ap (λ k. x ^ k) parts

raised-step : (x n p r : ℕ) → r ≡ ((x * x) % p) ^ (n / 2) % p → (x ^ (n % 2) * r) % p ≡ x ^ n % p
raised-step x n p r e =
    ap (λ k. (x ^ (n % 2) * k) % p) (e ∙ pow-mod (x * x) (n / 2) p)
    ∙ mul-mod_second (x ^ (n % 2)) ((x * x) ^ (n / 2)) p ∙ ap (λ k. k % p) (half-power x n)

-- repeated squaring gives the power
pub raised-is : (bits x n p : ℕ) → n < 2 ^ bits → raised bits x n p ≡ x ^ n % p
unfolding raised
raised-is zero x n p h =
    let none : n ≡ 0 = omega arith in
    ap (λ k. k % p) (sym (pow-zero x) ∙ ap (λ k. x ^ k) (sym none))
raised-is (suc bits) x n p h =
    let fits : n / 2 < 2 ^ bits = omega arith in
    raised-step x n p (raised bits ((x * x) % p) (n / 2) p) (raised-is bits ((x * x) % p) (n / 2) p fits)

-- Inverses, square roots and numbers that are no squares, modulo a prime.
use Rattle.std.proofs.Common.{◌≡◌, ℕ, zero, suc, ◌+◌, ◌-◌, ◌*◌, ◌%◌, ◌^◌, ◌<◌, ◌≤◌, ◌≢◌, ◌⊎◌, inl, inr, sym, ◌∙◌, ap, subst, arith, eq-zero-or-pos, lt_irrefl, mod-eq_of_lt, pow-suc, pow-add, mul-le-mul, mul-one, le_of_lt}
use Rattle.std.proofs.lemmas.Bool.{cases_lt}
use Rattle.std.proofs.lemmas.Nat.{mul-mod, mul-mod_second, mul-pow, pow-mod}
use Rattle.paseto_primes.specs.Prime.{IsPrime}
use Rattle.paseto_primes.specs.Root.{IsNonresidue}
use Rattle.paseto_primes.proofs.DivisorLaws.{difference, euclid, multiple-times, same-from_difference, times-multiple}
use Rattle.paseto_primes.proofs.FermatLaws.{above-one, fermat}

-- the power by p - 2 is the inverse
pub inverse : (p a : ℕ) → IsPrime p → a % p ≢ 0 → (a * (a ^ (p - 2) % p)) % p ≡ 1
inverse p a prime unit =
    let above : 1 < p = above-one p prime in
    let up : suc (p - 2) ≡ p - 1 = omega arith in
    let turned : a * a ^ (p - 2) ≡ a ^ suc (p - 2) = omega (arith, pow-suc a (p - 2)) in
    mul-mod_second a (a ^ (p - 2)) p ∙ ap (λ k. k % p) (turned ∙ ap (λ k. a ^ k) up) ∙ fermat p a prime unit

-- a power of a multiple of p
pub power-of_multiple : (p a n : ℕ) → 0 < n → a % p ≡ 0 → a ^ n % p ≡ 0
power-of_multiple p a zero positive e = absurd (lt_irrefl 0 positive)
power-of_multiple p a (suc n) positive e = ap (λ k. k % p) (pow-suc a n) ∙ times-multiple p (a ^ n) a e

-- Euler: the power of a square by (p - 1) / 2
pub square-power : (p half x : ℕ) → IsPrime p → p ≡ suc (2 * half) → x % p ≢ 0 → (x * x) ^ half % p ≡ 1
square-power p half x prime p_is unit =
    let whole : half + half ≡ p - 1 = omega arith in
    ap (λ k. k % p) (mul-pow x x half ∙ sym (pow-add x half half) ∙ ap (λ k. x ^ k) whole) ∙ fermat p x prime unit

quotient-of_squares : (p half d x y : ℕ) → IsPrime p → p ≡ suc (2 * half) → 0 < half → d ^ half % p ≡ p - 1 → y % p ≢ 0
    → (x * x) % p ≡ (d * (y * y)) % p → ⊥
quotient-of_squares p half d x y prime p_is positive power unit e =
    let above : 1 < p = above-one p prime in
    let right : (d * (y * y)) ^ half % p ≡ p - 1 =
    ap (λ k. k % p) (mul-pow d (y * y) half) ∙ mul-mod (d ^ half) ((y * y) ^ half) p
    ∙ ap (λ k. (k * ((y * y) ^ half % p)) % p) power ∙ ap (λ k. ((p - 1) * k) % p) (square-power p half y prime p_is unit)
    ∙ ap (λ k. k % p) (mul-one (p - 1)) ∙ mod-eq_of_lt (omega arith) in
    let left : (x * x) ^ half % p ≡ p - 1 =
    sym (pow-mod (x * x) half p) ∙ ap (λ k. k ^ half % p) e ∙ pow-mod (d * (y * y)) half p ∙ right in
    elim (eq-zero-or-pos (x % p)) [
      | inl none ↦
          let zero_left : (x * x) ^ half % p ≡ 0 = power-of_multiple p (x * x) half positive (multiple-times p x x none) in
          lt_irrefl 0 (omega arith)
      | inr some ↦
          let one_left : (x * x) ^ half % p ≡ 1 = square-power p half x prime p_is (λ none. lt_irrefl 0 (subst (λ k. 0 < k) none some)) in
          lt_irrefl 0 (omega arith)
    ]

-- a number whose power by (p - 1) / 2 is p - 1 is a nonresidue
pub nonresidue : (p half d : ℕ) → IsPrime p → p ≡ 2 * half + 1 → 0 < half → d ^ half % p ≡ p - 1 → IsNonresidue p d
nonresidue p half d prime p_is positive power x y e =
    elim (eq-zero-or-pos (y % p)) [
      | inl none ↦ none
      | inr some ↦
          absurd (quotient-of_squares p half d x y prime (omega arith) positive power (λ none. lt_irrefl 0 (subst (λ k. 0 < k) none some)) e)
    ]

opposite-ordered : (p x y : ℕ) → IsPrime p → y ≤ x → (x * x) % p ≡ (y * y) % p → (x % p ≡ y % p) ⊎ ((x + y) % p ≡ 0)
opposite-ordered p x y prime h e =
    let part : ℕ = x - y in
    let whole : y + part ≡ x = omega arith in
    let square : (y + part) * (y + part) ≡ x * x = ap (λ k. k * k) whole in
    let sum : (x - y) * (y + part + y) ≡ (x - y) * (x + y) = ap (λ k. (x - y) * (k + y)) whole in
    let spread : (x - y) * (x + y) ≡ x * x - y * y = omega arith in
    elim (euclid p (x - y) (x + y) prime (ap (λ k. k % p) spread ∙ difference p (x * x) (y * y) (mul-le-mul h h) e)) [
      | inl f ↦ inl (same-from_difference p x y h f)
      | inr f ↦ inr f
    ]

-- two roots of one square are the same, or one is the other's opposite
pub two-roots : (p x y : ℕ) → IsPrime p → (x * x) % p ≡ (y * y) % p → (x % p ≡ y % p) ⊎ ((x + y) % p ≡ 0)
two-roots p x y prime e =
    elim (cases_lt x y) [
      | inr h ↦ opposite-ordered p x y prime h e
      | inl h ↦
          elim (opposite-ordered p y x prime (le_of_lt h) (sym e)) [
            | inl f ↦ inl (sym f)
            | inr f ↦ inr (let turned : x + y ≡ y + x = omega arith in ap (λ k. k % p) turned ∙ f)
          ]
    ]

-- Numbers that are equal modulo a number.
use Rattle.std.proofs.Common.{◌≡◌, ℕ, ◌+◌, ◌-◌, ◌*◌, ◌%◌, ◌<◌, ◌≤◌, ◌≢◌, inl, inr, sym, ◌∙◌, ap, arith, le_of_lt, mod-eq_of_lt, suc-ne-zero}
use Rattle.std.proofs.Math.Nat.{add-mod, add-mul-mod_self_right}
use Rattle.std.proofs.lemmas.Bool.{cases_lt}
use Rattle.std.proofs.lemmas.Nat.{mul-mod}
use Rattle.paseto_primes.specs.Prime.{IsPrime}
use Rattle.paseto_primes.proofs.DivisorLaws.{difference, euclid, same-from_difference}

pub same-plus : (p a b c d : ℕ) → a % p ≡ b % p → c % p ≡ d % p → (a + c) % p ≡ (b + d) % p
same-plus p a b c d e f = add-mod a c p ∙ ap (λ k. (k + c % p) % p) e ∙ ap (λ k. (b % p + k) % p) f ∙ sym (add-mod b d p)

pub same-times : (p a b c d : ℕ) → a % p ≡ b % p → c % p ≡ d % p → (a * c) % p ≡ (b * d) % p
same-times p a b c d e f = mul-mod a c p ∙ ap (λ k. (k * (c % p)) % p) e ∙ ap (λ k. (b % p * k) % p) f ∙ sym (mul-mod b d p)

-- numbers that differ by multiples of p
pub equal-by : (p a b k j : ℕ) → a + k * p ≡ b + j * p → a % p ≡ b % p
equal-by p a b k j e = sym (add-mul-mod_self_right a k p) ∙ ap (λ n. n % p) e ∙ add-mul-mod_self_right b j p

cancel-plus_ordered : (p c a b : ℕ) → b ≤ a → (c + a) % p ≡ (c + b) % p → a % p ≡ b % p
cancel-plus_ordered p c a b h e =
    let low : c + b ≤ c + a = omega arith in
    let same : a - b ≡ (c + a) - (c + b) = omega arith in
    same-from_difference p a b h (ap (λ k. k % p) same ∙ difference p (c + a) (c + b) low e)

pub cancel-plus : (p c a b : ℕ) → (c + a) % p ≡ (c + b) % p → a % p ≡ b % p
cancel-plus p c a b e =
    elim (cases_lt a b) [
      | inl h ↦ sym (cancel-plus_ordered p c b a (le_of_lt h) (sym e))
      | inr h ↦ cancel-plus_ordered p c a b h e
    ]

-- ---- modulo a prime

pub one-not_zero : (p : ℕ) → 1 < p → 1 % p ≢ 0
one-not_zero p above e = suc-ne-zero 0 (sym (mod-eq_of_lt above) ∙ e)

-- of two factors the other one
pub other : (p a b : ℕ) → IsPrime p → a % p ≢ 0 → (a * b) % p ≡ 0 → b % p ≡ 0
other p a b prime unit e = elim (euclid p a b prime e) [ inl f ↦ absurd (unit f) | inr f ↦ f ]

pub product-not_zero : (p a b : ℕ) → IsPrime p → a % p ≢ 0 → b % p ≢ 0 → (a * b) % p ≢ 0
product-not_zero p a b prime e f h = f (other p a b prime e h)

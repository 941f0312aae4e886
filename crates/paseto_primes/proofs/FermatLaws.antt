-- Fermat: a ^ (p - 1) is 1 modulo a prime p that does not divide a.
use Rattle.std.proofs.Common.{not-suc-le-zero, ◌≡◌, ℕ, zero, suc, ◌+◌, ◌-◌, ◌*◌, ◌%◌, ◌^◌, ◌<◌, ◌≢◌, inl, inr, sym, ◌∙◌, ap, arith, pow-suc, mod-eq_of_lt, mul-one}
use Rattle.std.proofs.Math.Nat.{add-mod, pow-zero, mul-mod_right, suc-ne-zero}
use Rattle.paseto_primes.specs.Prime.{IsPrime}
use Rattle.paseto_primes.proofs.BinomialLaws.{absorb, binomial, choose, choose-self, terms}
use Rattle.paseto_primes.proofs.DivisorLaws.{cancel, euclid, multiple-times, without}

pub above-one : (p : ℕ) → IsPrime p → 1 < p
unfolding IsPrime
above-one p prime = prime.0

-- a prime divides its binomial coefficients but the first and the last
divides-choose : (n k : ℕ) → IsPrime (suc n) → k < n → choose (suc n) (suc k) % suc n ≡ 0
divides-choose n k prime h =
    elim (euclid (suc n) (suc k) (choose (suc n) (suc k)) prime (ap (λ w. w % suc n) (absorb n k) ∙ mul-mod_right (suc n) (choose n k))) [
      | inl e ↦ absurd (suc-ne-zero k (sym (mod-eq_of_lt (omega arith)) ∙ e))
      | inr e ↦ e
    ]

front : (n a m : ℕ) → IsPrime (suc n) → m < suc n → terms (suc n) a (suc m) % suc n ≡ 1 % suc n
unfolding terms choose
front n a zero prime h = ap (λ k. k % suc n) (let e : a ^ 0 ≡ 1 = pow-zero a in omega arith)
front n a (suc m) prime h =
    let last : ℕ = choose (suc n) (suc m) * a ^ suc m in
    let none : last % suc n ≡ 0 = multiple-times (suc n) (choose (suc n) (suc m)) (a ^ suc m) (divides-choose n m prime (omega arith)) in
    let turned : terms (suc n) a (suc m) + last ≡ last + terms (suc n) a (suc m) = omega arith in
    ap (λ k. k % suc n) turned ∙ without (suc n) last (terms (suc n) a (suc m)) none ∙ front n a m prime (omega arith)

-- the power of a sum with 1
next-power : (n a : ℕ) → IsPrime (suc n) → suc a ^ suc n % suc n ≡ suc (a ^ suc n) % suc n
unfolding terms
next-power n a prime =
    let p : ℕ = suc n in
    let last : choose p p * a ^ p ≡ 1 * a ^ p = ap (λ k. k * a ^ p) (choose-self p) in
    let whole : terms p a p + choose p p * a ^ p ≡ terms p a p + a ^ p = omega arith in
    let back : 1 + a ^ p ≡ suc (a ^ p) = omega arith in
    ap (λ k. k % p) (binomial a p ∙ whole) ∙ add-mod (terms p a p) (a ^ p) p
    ∙ ap (λ k. (k + a ^ p % p) % p) (front n a n prime (omega arith)) ∙ sym (add-mod 1 (a ^ p) p) ∙ ap (λ k. k % p) back

-- Fermat, for each a
fermat_all : (n a : ℕ) → IsPrime (suc n) → a ^ suc n % suc n ≡ a % suc n
fermat_all n zero prime = ap (λ k. k % suc n) (pow-suc 0 n ∙ (omega arith))
fermat_all n (suc a) prime =
    let e : a ^ suc n % suc n ≡ a % suc n = fermat_all n a prime in
    let one : suc (a ^ suc n) ≡ 1 + a ^ suc n = omega arith in
    let back : 1 + a ≡ suc a = omega arith in
    next-power n a prime ∙ ap (λ k. k % suc n) one ∙ add-mod 1 (a ^ suc n) (suc n) ∙ ap (λ k. (1 % suc n + k) % suc n) e
    ∙ sym (add-mod 1 a (suc n)) ∙ ap (λ k. k % suc n) back

little_suc : (n a : ℕ) → IsPrime (suc n) → a % suc n ≢ 0 → a ^ n % suc n ≡ 1
little_suc n a prime unit =
    let turned : a * a ^ n ≡ a ^ suc n = omega (arith, pow-suc a n) in
    cancel (suc n) a (a ^ n) 1 prime unit (ap (λ k. k % suc n) turned ∙ fermat_all n a prime ∙ ap (λ k. k % suc n) (sym (mul-one a)))
    ∙ mod-eq_of_lt (above-one (suc n) prime)

-- Fermat's little theorem
pub fermat : (p a : ℕ) → IsPrime p → a % p ≢ 0 → a ^ (p - 1) % p ≡ 1
fermat zero a prime unit = absurd (not-suc-le-zero (above-one zero prime))
fermat (suc n) a prime unit =
    let e : suc n - 1 ≡ n = omega arith in
    ap (λ k. a ^ k % suc n) e ∙ little_suc n a prime unit

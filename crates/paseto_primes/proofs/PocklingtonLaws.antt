-- Certificates that a number is prime, after Pocklington.
use Rattle.std.proofs.Common.{◌≡◌, ℕ, zero, suc, ◌+◌, ◌-◌, ◌*◌, ◌/◌, ◌%◌, ◌^◌, ◌<◌, ◌≤◌, ◌≢◌, inl, inr, refl, sym, ◌∙◌, ap, arith, not-suc-le-zero, mod-eq_of_lt, one-mul, div-add-mod', lt_irrefl, le_of_lt, le_refl, le_trans, mul-le-mul, pow-suc, pow-add}
use Rattle.std.proofs.Math.Nat.{eq_of_mul-eq-mul_left, mod-add-mod, pow-zero, suc-ne-zero, mod-mod_of_dvd, dvd_of_mod-eq-zero}
use Rattle.std.proofs.lemmas.Nat.{mul-mod_first, pow-mod}
use Rattle.paseto_primes.specs.Prime.{IsPrime}
use Rattle.paseto_primes.proofs.DivisorLaws.{divides-trans, euclid, gcd-within, multiple-is, prime-divisor, prime-from_small, quotient, times-multiple, le_from_multiple}
use Rattle.paseto_primes.proofs.FermatLaws.{above-one, fermat}
use Rattle.paseto_primes.proofs.PowerLaws.{power-power}

one-power : (k : ℕ) → 1 ^ k ≡ 1
one-power zero = pow-zero 1
one-power (suc k) = let e : 1 ^ k ≡ 1 = one-power k in pow-suc 1 k ∙ omega arith

-- a power of what is 1 modulo r
power-of_one : (r a h k : ℕ) → 1 < r → a ^ h % r ≡ 1 → a ^ (k * h) % r ≡ 1
power-of_one r a h k above e =
    ap (λ w. w % r) (sym (power-power a h k)) ∙ sym (pow-mod (a ^ h) k r) ∙ ap (λ w. w ^ k % r) e ∙ ap (λ w. w % r) (one-power k)
    ∙ mod-eq_of_lt above

exponents-closed : (r a x y : ℕ) → 1 < r → a ^ x % r ≡ 1 → a ^ y % r ≡ 1 → a ^ (x % y) % r ≡ 1
exponents-closed r a x y above e f =
    let whole : x / y * y + x % y ≡ x = div-add-mod' x y in
    let product : a ^ (x / y * y) * a ^ (x % y) ≡ a ^ x = sym (pow-add a (x / y * y) (x % y)) ∙ ap (λ w. a ^ w) whole in
    ap (λ w. w % r) (sym (one-mul (a ^ (x % y)))) ∙ ap (λ w. (w * a ^ (x % y)) % r) (sym (power-of_one r a y (x / y) above f))
    ∙ mul-mod_first (a ^ (x / y * y)) (a ^ (x % y)) r ∙ ap (λ w. w % r) product ∙ e

-- what has a power that is 1 is not divided by r
unit-from_power : (r a n : ℕ) → 1 < r → 0 < n → a ^ n % r ≡ 1 → a % r ≢ 0
unit-from_power r a zero above positive e none = not-suc-le-zero positive
unit-from_power r a (suc n) above positive e none =
    suc-ne-zero 0 (sym e ∙ ap (λ w. w % r) (pow-suc a n) ∙ times-multiple r (a ^ n) a none)

-- the order of a modulo r divides q * m and not m, so q divides it, and it divides r - 1
order-divides : (r a q m : ℕ) → IsPrime r → IsPrime q → 0 < q * m → a ^ (q * m) % r ≡ 1 → a ^ m % r ≢ 1 → (r - 1) % q ≡ 0
order-divides r a q m prime_r prime_q positive e apart =
    let above : 1 < r = above-one r prime_r in
    let w : (g : ℕ) × (a ^ g % r ≡ 1) × ((r - 1) % g ≡ 0) × ((q * m) % g ≡ 0) =
    gcd-within (λ n. a ^ n % r ≡ 1) (λ x y pos f h. exponents-closed r a x y above f h) (suc (q * m)) (r - 1) (q * m) (omega arith)
    (fermat r a prime_r (unit-from_power r a (q * m) above positive e)) e in
    let g : ℕ = w.0 in
    let k : ℕ = q * m / g in
    let whole : g * k ≡ q * m = quotient g (q * m) w.3 in
    elim (euclid q g k prime_q (multiple-is q (g * k) m whole)) [
      | inl h ↦ divides-trans q g (r - 1) h w.2
      | inr h ↦
          let rest : q * (k / q) ≡ k = quotient q k h in
          let spread : g * (q * (k / q)) ≡ g * k = ap (λ v. g * v) rest in
          let same : q * (k / q * g) ≡ q * m = omega arith in
          let m_is : k / q * g ≡ m = eq_of_mul-eq-mul_left q (le_trans (omega arith) (le_of_lt (above-one q prime_q))) (k / q * g) m same in
          absurd (apart (ap (λ v. a ^ v % r) (sym m_is) ∙ power-of_one r a g (k / q) above w.1))
    ]

-- modulo a divisor
pub lower : (n r x y : ℕ) → n % r ≡ 0 → x % n ≡ y → x % r ≡ y % r
lower n r x y e f = sym (mod-mod_of_dvd r x (dvd_of_mod-eq-zero r e)) ∙ ap (λ w. w % r) f

-- u shows that b - 1 has no divisor in common with n
no_common : (n r u b : ℕ) → 1 < r → 0 < n → n % r ≡ 0 → (u * (b + (n - 1))) % n ≡ 1 → b % r ≢ 1
no_common n r u b above positive e f one =
    let back : 1 + (n - 1) ≡ n = omega arith in
    let none : (b + (n - 1)) % r ≡ 0 = sym (mod-add-mod b r (n - 1)) ∙ ap (λ w. (w + (n - 1)) % r) one ∙ ap (λ w. w % r) back ∙ e in
    suc-ne-zero 0 (sym (mod-eq_of_lt above) ∙ sym (lower n r (u * (b + (n - 1))) 1 e f) ∙ times-multiple r u (b + (n - 1)) none)

-- q divides r - 1 for each prime divisor r of n
pub pocklington-divisor : (n a q m u r : ℕ) → IsPrime q → n ≡ q * m + 1 → 0 < m → a ^ (q * m) % n ≡ 1
    → (u * (a ^ m % n + (n - 1))) % n ≡ 1 → IsPrime r → n % r ≡ 0 → (r - 1) % q ≡ 0
pocklington-divisor n a q m u r prime_q n_is positive whole apart prime_r divides =
    let above : 1 < r = above-one r prime_r in
    let long : 1 < q = above-one q prime_q in
    let more : 1 * m ≤ q * m = mul-le-mul (le_of_lt long) (le_refl m) in
    let part : a ^ m % r ≡ a ^ m % n % r = lower n r (a ^ m) (a ^ m % n) divides refl in
    order-divides r a q m prime_r prime_q (omega arith) (lower n r (a ^ (q * m)) 1 divides whole ∙ mod-eq_of_lt above)
    (λ same. no_common n r u (a ^ m % n) above (omega arith) divides apart (sym part ∙ same))

-- a number each of whose prime divisors is 1 modulo f, where f + 1 is above its square root
pub pocklington : (n f : ℕ) → 1 < n → n < (f + 1) * (f + 1) → ((r : ℕ) → IsPrime r → n % r ≡ 0 → (r - 1) % f ≡ 0) → IsPrime n
pocklington n f above long each = prime-from_small n above none
  where
    none : (s t : ℕ) → 1 < s → s ≤ t → s * t ≡ n → ⊥
    none s t hs hst e =
        let w : (r : ℕ) × IsPrime r × (s % r ≡ 0) = prime-divisor s hs in
        let r : ℕ = w.0 in
        let above_r : 1 < r = above-one r w.1 in
        let divides : n % r ≡ 0 = divides-trans r s n w.2 (multiple-is s n t (sym e)) in
        let f_fits : f ≤ r - 1 = le_from_multiple f (r - 1) (omega arith) (each r w.1 divides) in
        let r_fits : r ≤ s = le_from_multiple r s (omega arith) w.2 in
        let f_s : f + 1 ≤ s = omega arith in
        let f_t : f + 1 ≤ t = omega arith in
        let square : (f + 1) * (f + 1) ≤ s * t = mul-le-mul f_s f_t in
        lt_irrefl n (omega arith)

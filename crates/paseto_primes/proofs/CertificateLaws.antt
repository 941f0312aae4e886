-- What a chain of certificates shows.
use Rattle.std.proofs.Common.{◌≡◌, ℕ, zero, suc, ◌+◌, ◌-◌, ◌*◌, ◌/◌, ◌%◌, ◌^◌, ◌<◌, ◌≤◌, ◌⊎◌, inl, inr, Bool, true, false, true≢false, ◌&&◌, ◌||◌, List, [], ◌∷◌, nat_eq, nat_lt, refl, sym, ◌∙◌, add-one, ap, subst, arith, eq-or-lt_of_le, eq-zero-or-pos, eqb-true, leb-true, ltb-true, le_of_lt, le_refl, lt_irrefl, mul-le-mul}
use Rattle.std.proofs.lemmas.Bool.{and_parts, cases_lt}
use Rattle.paseto_primes.specs.Certified.{Certificate, Witness, are_witnesses, divided, divisors, is_certificate, is_chain, is_listed, is_witness, number, product, witnessed}
use Rattle.paseto_primes.specs.Power.{raised}
use Rattle.paseto_primes.specs.Prime.{IsPrime}
use Rattle.paseto_primes.proofs.DivisorLaws.{multiple-is, prime-from_small, product-divides}
use Rattle.paseto_primes.proofs.FermatLaws.{above-one}
use Rattle.paseto_primes.proofs.PocklingtonLaws.{pocklington, pocklington-divisor}
use Rattle.paseto_primes.proofs.PowerLaws.{raised-is}

-- ---- trial division

no-divisor : (count k n j : ℕ) → divisors count k n ≡ 0 → k ≤ j → j < k + count → 0 < n % j
unfolding divisors
no-divisor zero k n j e low high = absurd (lt_irrefl 0 (omega arith))
no-divisor (suc count) k n j e low high =
    elim (eq-or-lt_of_le low) [
      | inl same ↦ subst (λ w. 0 < n % w) same (omega arith)
      | inr more ↦ no-divisor count (suc k) n j (omega arith) more (omega arith)
    ]

pub trial-division : (n count : ℕ) → 1 < n → n < (count + 2) * (count + 2) → divisors count 2 n ≡ 0 → IsPrime n
trial-division n count above bound e = prime-from_small n above none
  where
    none : (s t : ℕ) → 1 < s → s ≤ t → s * t ≡ n → ⊥
    none s t hs hst w =
        elim (cases_lt s (2 + count)) [
          | inl below ↦ lt_irrefl 0 (subst (λ k. 0 < k) (multiple-is s n t (sym w)) (no-divisor count 2 n s e hs below))
          | inr large ↦
              let low : count + 2 ≤ s = omega arith in
              let high : count + 2 ≤ t = omega arith in
              let square : (count + 2) * (count + 2) ≤ s * t = mul-le-mul low high in
              lt_irrefl n (omega arith)
        ]

-- ---- witnesses

-- the numbers of the certificates are prime
abbrev ArePrime : List Certificate → Type 0
ArePrime smaller = (q : ℕ) → is_listed q smaller ≡ true → IsPrime q

part-fits : (n q m bound : ℕ) → 1 < q → n ≡ suc (q * m) → n ≤ bound → (q * m < bound) × (m < bound)
part-fits n q m bound long n_is fits =
    let more : 1 * m ≤ q * m = mul-le-mul (le_of_lt long) (le_refl m) in
    (omega arith, omega arith)

part-positive : (n q m : ℕ) → 1 < n → n ≡ suc (q * m) → 0 < m
part-positive n q m above n_is =
    elim (eq-zero-or-pos m) [
      | inl none ↦ absurd (let nothing : q * m ≡ q * 0 = ap (λ k. q * k) none in lt_irrefl 1 (omega arith))
      | inr some ↦ some
    ]

witness-divides : (smaller : List Certificate) → ArePrime smaller → (bits n : ℕ) → 1 < n → n ≤ 2 ^ bits → (w : Witness)
    → is_witness smaller bits n w ≡ true → (r : ℕ) → IsPrime r → n % r ≡ 0 → (r - 1) % w.divisor ≡ 0
unfolding is_witness
witness-divides smaller primes bits n above fits w e r prime divides =
    let q : ℕ = w.divisor in
    let m : ℕ = (n - 1) / q in
    let first = and_parts _ _ e in
    let second = and_parts _ _ first.1 in
    let third = and_parts _ _ second.1 in
    let prime_q : IsPrime q = primes q first.0 in
    let n_is : n ≡ suc (q * m) = eqb-true n (suc (q * m)) second.0 in
    let low = part-fits n q m (2 ^ bits) (above-one q prime_q) n_is fits in
    pocklington-divisor n w.base q m w.inverse r prime_q (n_is ∙ sym (add-one (q * m))) (part-positive n q m above n_is)
    (sym (raised-is bits w.base (q * m) n low.0) ∙ eqb-true (raised bits w.base (q * m) n) 1 third.0)
    (ap (λ k. (w.inverse * (k + (n - 1))) % n) (sym (raised-is bits w.base m n low.1))
    ∙ eqb-true ((w.inverse * (raised bits w.base m n + (n - 1))) % n) 1 third.1)
    prime divides

witness-prime : (smaller : List Certificate) → ArePrime smaller → (bits n : ℕ) (w : Witness)
    → is_witness smaller bits n w ≡ true → IsPrime w.divisor
unfolding is_witness
witness-prime smaller primes bits n w e = primes w.divisor (and_parts _ _ e).0

witnesses-divide : (smaller : List Certificate) → ArePrime smaller → (bits n : ℕ) → 1 < n → n ≤ 2 ^ bits → (ws : List Witness)
    → are_witnesses smaller bits n ws ≡ true → (r : ℕ) → IsPrime r → n % r ≡ 0 → (r - 1) % product ws ≡ 0
unfolding are_witnesses product
witnesses-divide smaller primes bits n above fits [] e r prime divides = omega arith
witnesses-divide smaller primes bits n above fits (w ∷ ws) e r prime divides =
    let first = and_parts (is_witness smaller bits n w) (nat_lt 0 (product ws % w.divisor) && are_witnesses smaller bits n ws) e in
    let second = and_parts (nat_lt 0 (product ws % w.divisor)) (are_witnesses smaller bits n ws) first.1 in
    let turned : w.divisor * product ws ≡ product ws * w.divisor = omega arith in
    ap (λ k. (r - 1) % k) turned
    ∙ product-divides (product ws) w.divisor (r - 1) (witness-prime smaller primes bits n w first.0)
    (ltb-true 0 (product ws % w.divisor) second.0)
    (witnesses-divide smaller primes bits n above fits ws second.1 r prime divides)
    (witness-divides smaller primes bits n above fits w first.0 r prime divides)

certificate-prime : (smaller : List Certificate) → ArePrime smaller → (c : Certificate) → is_certificate smaller c ≡ true → IsPrime (number c)
unfolding is_certificate number
certificate-prime smaller primes (divided n count) e =
    let first = and_parts _ _ e in
    let second = and_parts _ _ first.1 in
    trial-division n count (ltb-true 1 n first.0) (ltb-true n ((count + 2) * (count + 2)) second.0) (eqb-true (divisors count 2 n) 0 second.1)
certificate-prime smaller primes (witnessed n bits ws) e =
    let first = and_parts _ _ e in
    let second = and_parts _ _ first.1 in
    let third = and_parts _ _ second.1 in
    let above : 1 < n = ltb-true 1 n first.0 in
    let long : n < suc (product ws) * suc (product ws) = ltb-true n (suc (product ws) * suc (product ws)) third.0 in
    pocklington n (product ws) above (subst (λ k. n < k * k) (sym (add-one (product ws))) long)
    (λ r prime divides. witnesses-divide smaller primes bits n above (leb-true n (2 ^ bits) second.0) ws third.1 r prime divides)

either : (a b : Bool) → (a || b) ≡ true → (a ≡ true) ⊎ (b ≡ true)
either true b e = inl refl
either false b e = inr e

chain-primes : (cs : List Certificate) → is_chain cs ≡ true → ArePrime cs
unfolding is_chain is_listed
chain-primes [] e q f = absurd (true≢false (sym f))
chain-primes (c ∷ cs) e q f =
    let parts = and_parts (is_certificate cs c) (is_chain cs) e in
    elim (either (nat_eq q (number c)) (is_listed q cs) f) [
      | inl same ↦ subst (λ k. IsPrime k) (sym (eqb-true q (number c) same)) (certificate-prime cs (chain-primes cs parts.1) c parts.0)
      | inr later ↦ chain-primes cs parts.1 q later
    ]

-- the number of the first certificate is prime
pub certified : (c : Certificate) (smaller : List Certificate) → is_chain (c ∷ smaller) ≡ true → IsPrime (number c)
unfolding is_chain
certified c smaller e =
    let parts = and_parts (is_certificate smaller c) (is_chain smaller) e in
    certificate-prime smaller (chain-primes smaller parts.1) c parts.0

-- all that a chain computes with
unfoldable pub certifying : ℕ
unfolding is_chain is_certificate are_witnesses is_witness is_listed number product divisors raised
certifying = 0

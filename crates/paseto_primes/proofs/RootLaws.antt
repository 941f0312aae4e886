-- Square roots modulo a prime by a power, as the decoding of points takes them.
use Rattle.std.proofs.Common.{◌≡◌, ℕ, suc, ◌+◌, ◌*◌, ◌%◌, ◌^◌, ◌<◌, ◌≢◌, ◌⊎◌, inl, inr, refl, sym, ◌∙◌, ap, subst, arith, eq-zero-or-pos, lt_irrefl, mod-eq_of_lt, pow-suc, pow-add, zero-lt-suc}
use Rattle.std.proofs.lemmas.Nat.{mul-mod_first, pow-mod}
use Rattle.paseto_primes.specs.Prime.{IsPrime}
use Rattle.paseto_primes.specs.Root.{quotient_root}
use Rattle.paseto_primes.proofs.CongruenceLaws.{other, product-not_zero, same-plus, same-times}
use Rattle.paseto_primes.proofs.DivisorLaws.{multiple-times, times-multiple}
use Rattle.paseto_primes.proofs.EulerLaws.{two-roots, power-of_multiple, square-power}
use Rattle.paseto_primes.proofs.FermatLaws.{above-one}

-- the power by k + 1 of a square, squared: what is left is the power of the root by 2 * k
square-of_power : (p a x k : ℕ) → a % p ≡ (x * x) % p → (a ^ suc k * a ^ suc k) % p ≡ ((x * x) ^ suc (2 * k) * a) % p
square-of_power p a x k e =
    let count : suc k + suc k ≡ suc (suc (2 * k)) = omega arith in
    ap (λ w. w % p) (sym (pow-add a (suc k) (suc k)) ∙ ap (λ w. a ^ w) count ∙ pow-suc a (suc (2 * k)))
    ∙ same-times p (a ^ suc (2 * k)) ((x * x) ^ suc (2 * k)) a a
    (sym (pow-mod a (suc (2 * k)) p) ∙ ap (λ w. w ^ suc (2 * k) % p) e ∙ pow-mod (x * x) (suc (2 * k)) p) refl

-- where p is 4 * k + 3, the power by k + 1 of a square is its root
pub root-three_of_four : (p k a x : ℕ) → IsPrime p → p ≡ 4 * k + 3 → a % p ≡ (x * x) % p → (a ^ suc k * a ^ suc k) % p ≡ a % p
root-three_of_four p k a x prime p_is e =
    elim (eq-zero-or-pos (x % p)) [
      | inl none ↦
          let a_none : a % p ≡ 0 = e ∙ multiple-times p x x none in
          multiple-times p (a ^ suc k) (a ^ suc k) (power-of_multiple p a (suc k) (zero-lt-suc k) a_none) ∙ sym a_none
      | inr some ↦
          let one : 1 * a ≡ a = omega arith in
          square-of_power p a x k e
          ∙ sym (mul-mod_first ((x * x) ^ suc (2 * k)) a p)
          ∙ ap (λ w. (w * a) % p) (square-power p (suc (2 * k)) x prime (omega arith) (λ none. lt_irrefl 0 (subst (λ w. 0 < w) none some)))
          ∙ ap (λ w. w % p) one
    ]

-- where p is 8 * k + 5, the square of the power by k + 1 is the square or its opposite
pub root-five_of_eight : (p k a x : ℕ) → IsPrime p → p ≡ 8 * k + 5 → a % p ≡ (x * x) % p
    → ((a ^ suc k * a ^ suc k) % p ≡ a % p) ⊎ ((a ^ suc k * a ^ suc k + a) % p ≡ 0)
root-five_of_eight p k a x prime p_is e =
    elim (eq-zero-or-pos (x % p)) [
      | inl none ↦
          let a_none : a % p ≡ 0 = e ∙ multiple-times p x x none in
          inl (multiple-times p (a ^ suc k) (a ^ suc k) (power-of_multiple p a (suc k) (zero-lt-suc k) a_none) ∙ sym a_none)
      | inr some ↦
          let r : ℕ = (x * x) ^ suc (2 * k) in
          let count : suc (2 * k) + suc (2 * k) ≡ 2 * suc (2 * k) = omega arith in
          let whole : (x * x) ^ (2 * suc (2 * k)) % p ≡ 1 =
          square-power p (2 * suc (2 * k)) x prime (omega arith) (λ none. lt_irrefl 0 (subst (λ w. 0 < w) none some)) in
          let square : (r * r) % p ≡ (1 * 1) % p =
          ap (λ w. w % p) (sym (pow-add (x * x) (suc (2 * k)) (suc (2 * k))) ∙ ap (λ w. (x * x) ^ w) count) ∙ whole
          ∙ sym (mod-eq_of_lt (above-one p prime)) in
          let one : 1 * a ≡ a = omega arith in
          let back : r * a + a ≡ (r + 1) * a = omega arith in
          elim (two-roots p r 1 prime square) [
            | inl same ↦ inl (square-of_power p a x k e ∙ same-times p r 1 a a same refl ∙ ap (λ w. w % p) one)
            | inr other ↦
                inr (same-plus p (a ^ suc k * a ^ suc k) (r * a) a a (square-of_power p a x k e) refl ∙ ap (λ w. w % p) back
                ∙ multiple-times p (r + 1) a other)
          ]
    ]

-- ---- the root of a quotient, with no division (RFC 8032, section 5.1.3, step 2)

square-of_root : (p u v s r c k w : ℕ) → w ≡ u * (v * v * v * (v * v * v) * v) → c ≡ u * (v * v * v) * w ^ k
    → w % p ≡ (s * s) % p → r ≡ (s * s) ^ suc (2 * k) → (v * (c * c)) % p ≡ (r * u) % p
square-of_root p u v s r c k w w_is c_is same r_is =
    let b : ℕ = w ^ k in
    let count : k + k ≡ 2 * k = omega arith in
    let power : w ^ suc (2 * k) ≡ b * b * w = pow-suc w (2 * k) ∙ ap (λ n. n * w) (ap (λ n. w ^ n) (sym count) ∙ pow-add w k k) in
    let square : v * (c * c) ≡ v * (u * (v * v * v) * b * (u * (v * v * v) * b)) = ap (λ n. v * (n * n)) c_is in
    let whole : b * b * w ≡ b * b * (u * (v * v * v * (v * v * v) * v)) = ap (λ n. b * b * n) w_is in
    let times_u : b * b * w * u ≡ b * b * (u * (v * v * v * (v * v * v) * v)) * u = ap (λ n. n * u) whole in
    let all : v * (c * c) ≡ b * b * w * u = omega arith in
    ap (λ n. n % p) all ∙ ap (λ n. (n * u) % p) (sym power)
    ∙ same-times p (w ^ suc (2 * k)) r u u
    (sym (pow-mod w (suc (2 * k)) p) ∙ ap (λ n. n ^ suc (2 * k) % p) same ∙ pow-mod (s * s) (suc (2 * k)) p
    ∙ ap (λ n. n % p) (sym r_is)) refl

-- where p is 8 * k + 5 and u / v is a square, v * c ^ 2 is u or -u
pub quotient_root-is : (p k u v x : ℕ) → IsPrime p → p ≡ 8 * k + 5 → v % p ≢ 0 → u % p ≡ (v * (x * x)) % p
    → ((v * (quotient_root k u v * quotient_root k u v)) % p ≡ u % p) ⊎ ((v * (quotient_root k u v * quotient_root k u v) + u) % p ≡ 0)
unfolding quotient_root
quotient_root-is p k u v x prime p_is unit e =
    let w : ℕ = u * (v * v * v * (v * v * v) * v) in
    let s : ℕ = v * v * (v * v) * x in
    let r : ℕ = (s * s) ^ suc (2 * k) in
    let c : ℕ = quotient_root k u v in
    let w_square : v * (x * x) * (v * v * v * (v * v * v) * v) ≡ s * s = omega arith in
    let w_is : w % p ≡ (s * s) % p =
    same-times p u (v * (x * x)) (v * v * v * (v * v * v) * v) (v * v * v * (v * v * v) * v) e refl ∙ ap (λ n. n % p) w_square in
    let root : (v * (c * c)) % p ≡ (r * u) % p = square-of_root p u v s r c k w refl refl w_is refl in
    elim (eq-zero-or-pos (s % p)) [
      | inl none ↦
          let x_none : x % p ≡ 0 =
          other p (v * v * (v * v)) x prime (product-not_zero p (v * v) (v * v) prime (product-not_zero p v v prime unit unit) (product-not_zero p v v prime unit unit)) none in
          let u_none : u % p ≡ 0 = e ∙ times-multiple p v (x * x) (multiple-times p x x x_none) in
          inl (root ∙ times-multiple p r u u_none ∙ sym u_none)
      | inr some ↦
          let count : suc (2 * k) + suc (2 * k) ≡ 2 * suc (2 * k) = omega arith in
          let whole : (s * s) ^ (2 * suc (2 * k)) % p ≡ 1 =
          square-power p (2 * suc (2 * k)) s prime (omega arith) (λ none. lt_irrefl 0 (subst (λ n. 0 < n) none some)) in
          let square : (r * r) % p ≡ (1 * 1) % p =
          ap (λ n. n % p) (sym (pow-add (s * s) (suc (2 * k)) (suc (2 * k))) ∙ ap (λ n. (s * s) ^ n) count) ∙ whole
          ∙ sym (mod-eq_of_lt (above-one p prime)) in
          let one : 1 * u ≡ u = omega arith in
          let back : r * u + u ≡ (r + 1) * u = omega arith in
          elim (two-roots p r 1 prime square) [
            | inl same ↦ inl (root ∙ same-times p r 1 u u same refl ∙ ap (λ n. n % p) one)
            | inr opposed ↦
                inr (same-plus p (v * (c * c)) (r * u) u u root refl ∙ ap (λ n. n % p) back ∙ multiple-times p (r + 1) u opposed)
          ]
    ]

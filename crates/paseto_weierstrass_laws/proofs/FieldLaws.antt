-- The field of P-384: each element but 0 has an inverse, and a product is 0 only where a factor is.
use Rattle.std.proofs.Common.{◌≡◌, ◌≢◌, ℕ, zero, suc, ◌+◌, ◌-◌, ◌*◌, ◌%◌, ◌^◌, ◌<◌, ◌⊎◌, inl, inr, [], ◌∷◌, refl, sym, ◌∙◌, ap, arith, lit<, mod-lt, mod-eq_of_lt, pow-add}
use Rattle.std.proofs.Math.Nat.{pow-succ', pow-zero}
use Rattle.std.proofs.lemmas.Nat.{mul-mod, mul-mod_second, mul-pow, pow-mod}
use Rattle.paseto_primes.specs.Element.{minus as minus_modulo, plus as plus_modulo, times as times_modulo}
use Rattle.paseto_primes.specs.Polynomial.{constant, product}
use Rattle.paseto_primes.proofs.EulerLaws as euler
use Rattle.paseto_primes.proofs.FieldOfP384.{is-prime}
use Rattle.paseto_weierstrass_laws.specs.Field.{inverse, minus, plus, power, prime, times}
use Rattle.paseto_weierstrass_laws.proofs.Identities.{equation, identifying, identity, v0, v1, v2}

pub times-below : (x y : ℕ) → times x y < prime
unfolding times times_modulo
times-below x y = mod-lt (x * y) (lit< tt)

pub plus-below : (x y : ℕ) → plus x y < prime
unfolding plus plus_modulo
plus-below x y = mod-lt _ (lit< tt)

pub minus-below : (x y : ℕ) → minus x y < prime
unfolding minus minus_modulo
minus-below x y = mod-lt _ (lit< tt)

pub power-below : (x n : ℕ) → power x n < prime
unfolding power
power-below x n = mod-lt (x ^ n) (lit< tt)

pub inverse-below : (x : ℕ) → inverse x < prime
unfolding inverse
inverse-below x = power-below x (prime - 2)

pub zero_or_not : (n : ℕ) → (n ≡ 0) ⊎ (n ≢ 0)
zero_or_not zero = inl refl
zero_or_not (suc n) = inr (λ e. omega arith)

-- a bit is 0 or 1
pub bit_cases : (n : ℕ) → n < 2 → (n ≡ 0) ⊎ (n ≡ 1)
bit_cases zero h = inl refl
bit_cases (suc zero) h = inr refl
bit_cases (suc (suc n)) h = absurd (omega arith)

-- the power by p - 2 is the inverse
pub fermat : (a : ℕ) → a < prime → a ≢ 0 → times a (inverse a) ≡ 1
unfolding times times_modulo inverse power
fermat a below nonzero = euler.inverse prime a is-prime (λ e. nonzero (sym (mod-eq_of_lt below) ∙ e))

times_cancel : (a b i : ℕ) → a < prime → b < prime → i < prime → times a i ≡ 1 → times a b ≡ 0 → b ≡ 0
unfolding identifying
times_cancel a b i ha hb hi inv h =
    identity 3 (a ∷ b ∷ i ∷ []) (ha, (hb, (hi, tt)))
    (equation v1 (constant 1) (product v0 v2)
    ∷ equation v2 (product v0 v1) (constant 0)
    ∷ [])
    (sym inv, (h, tt)) v1 (constant 0) refl

-- a product of 0 has a factor 0
pub times-zero : (a b : ℕ) → a < prime → b < prime → a ≢ 0 → times a b ≡ 0 → b ≡ 0
times-zero a b ha hb na h = times_cancel a b (inverse a) ha hb (inverse-below a) (fermat a ha na) h

pub times-ne-zero : (a b : ℕ) → a < prime → b < prime → a ≢ 0 → b ≢ 0 → times a b ≢ 0
times-ne-zero a b ha hb na nb h = nb (times-zero a b ha hb na h)

pub cube-zero : (x : ℕ) → x < prime → times (times x x) x ≡ 0 → x ≡ 0
cube-zero x h e = elim (zero_or_not x) [
  | inl none ↦ none
  | inr some ↦ absurd (times-ne-zero (times x x) x (times-below x x) h (times-ne-zero x x h h some some) some e)
]

pub times_one : (x : ℕ) → x < prime → x ≡ times 1 x
unfolding identifying
times_one x h = identity 1 (x ∷ []) (h, tt) [] tt v0 (product (constant 1) v0) refl

pub times_none : (a : ℕ) → a < prime → times a 0 ≡ 0
unfolding identifying
times_none a h = identity 1 (a ∷ []) (h, tt) [] tt (product v0 (constant 0)) (constant 0) refl

pub times_unit : (a : ℕ) → a < prime → a ≡ times a 1
unfolding identifying
times_unit a h = identity 1 (a ∷ []) (h, tt) [] tt v0 (product v0 (constant 1)) refl

pub times_comm : (a b : ℕ) → a < prime → b < prime → times a b ≡ times b a
unfolding identifying
times_comm a b ha hb = identity 2 (a ∷ b ∷ []) (ha, (hb, tt)) [] tt (product v0 v1) (product v1 v0) refl

pub times_assoc : (a b c : ℕ) → a < prime → b < prime → c < prime → times a (times b c) ≡ times (times a b) c
unfolding identifying
times_assoc a b c ha hb hc =
    identity 3 (a ∷ b ∷ c ∷ []) (ha, (hb, (hc, tt))) [] tt (product v0 (product v1 v2)) (product (product v0 v1) v2) refl

pub restored : (a z i : ℕ) → a < prime → z < prime → i < prime → times z i ≡ 1 → a ≡ times z (times a i)
unfolding identifying
restored a z i ha hz hi inv =
    identity 3 (a ∷ z ∷ i ∷ []) (ha, (hz, (hi, tt)))
    (equation v0 (constant 1) (product v1 v2) ∷ []) (sym inv, tt)
    v0 (product v1 (product v0 v2)) refl

pub inverse-ne-zero : (a : ℕ) → a < prime → a ≢ 0 → inverse a ≢ 0
unfolding times times_modulo
inverse-ne-zero a h n e =
    let none : a * 0 ≡ 0 = omega arith in
    let one : ◌≡◌ {A = ℕ} 0 1 = sym (ap (λ w. w % prime) none) ∙ ap (times a) (sym e) ∙ fermat a h n in
    absurd (omega arith)

pub power_plus : (x m n : ℕ) → times (power x m) (power x n) ≡ power x (m + n)
unfolding times power times_modulo
power_plus x m n = sym (mul-mod (x ^ m) (x ^ n) prime) ∙ ap (λ y. y % prime) (sym (pow-add x m n))

pub power_suc : (x n : ℕ) → times x (power x n) ≡ power x (suc n)
unfolding times power times_modulo
power_suc x n = mul-mod_second x (x ^ n) prime ∙ ap (λ y. y % prime) (sym (pow-succ' x n))

pub power_zero : (a : ℕ) → power a 0 ≡ 1
unfolding power
power_zero a = ap (λ n. n % prime) (pow-zero a)

pub power_times : (x y n : ℕ) → power (times x y) n ≡ times (power x n) (power y n)
unfolding times power times_modulo
power_times x y n = pow-mod (x * y) n prime ∙ ap (λ w. w % prime) (mul-pow x y n) ∙ mul-mod (x ^ n) (y ^ n) prime

-- The square root of a quotient is found if there is one.
use Rattle.std.proofs.Common.{◌≡◌, ◌≢◌, ℕ, ◌+◌, ◌-◌, ◌*◌, ◌/◌, ◌%◌, ◌^◌, ◌<◌, Option, Some, nat_eq, if◌then◌else◌, inl, inr, refl, sym, ◌∙◌, ap, arith, lit<, mod-eq_of_lt, mod-lt}
use Rattle.std.proofs.Math.Nat.{mod-mod}
use Rattle.std.proofs.lemmas.Bool.{cases_eq}
use Rattle.std.proofs.lemmas.Bool.Decides.{nat_tests}
use Rattle.std.proofs.lemmas.Nat.{pow-mod}
use Rattle.paseto_primes.proofs.CongruenceLaws.{cancel-plus, same-plus, same-times}
use Rattle.paseto_primes.proofs.DivisorLaws.{times-multiple}
use Rattle.paseto_primes.specs.Root.{quotient_root}
use Rattle.paseto_primes.proofs.RootLaws.{quotient_root-is}
use Rattle.paseto_edwards25519.specs.Encoding.{candidate, square_root}
use Rattle.paseto_edwards25519.specs.Field.{minus, power, times}
use Rattle.paseto_edwards_laws.specs.Edwards25519.{prime, square_root_of_minus_one}
use Rattle.paseto_primes.proofs.FieldOfEdwards25519.{is-prime}

times-same : (a b c e : ℕ) → a % prime ≡ b % prime → c % prime ≡ e % prime → times a c % prime ≡ (b * e) % prime
unfolding times
times-same a b c e same same' = mod-mod (a * c) prime ∙ same-times prime a b c e same same'

power-same : (a b k : ℕ) → a % prime ≡ b % prime → power a k % prime ≡ b ^ k % prime
unfolding power
power-same a b k same = mod-mod (a ^ k) prime ∙ sym (pow-mod a k prime) ∙ ap (λ n. n ^ k % prime) same ∙ pow-mod b k prime

candidate-is : (u v : ℕ) → candidate u v % prime ≡ quotient_root ((prime - 5) / 8) u v % prime
unfolding candidate quotient_root
candidate-is u v =
    let cube : times (times v v) v % prime ≡ (v * v * v) % prime = times-same (times v v) (v * v) v v (times-same v v v v refl refl) refl in
    let seventh : times (times (times (times v v) v) (times (times v v) v)) v % prime ≡ (v * v * v * (v * v * v) * v) % prime =
    times-same (times (times (times v v) v) (times (times v v) v)) (v * v * v * (v * v * v)) v v
    (times-same (times (times v v) v) (v * v * v) (times (times v v) v) (v * v * v) cube cube) refl in
    times-same (times u (times (times v v) v)) (u * (v * v * v))
    (power (times u (times (times (times (times v v) v) (times (times v v) v)) v)) ((prime - 5) / 8))
    ((u * (v * v * v * (v * v * v) * v)) ^ ((prime - 5) / 8))
    (times-same u u (times (times v v) v) (v * v * v) refl cube)
    (power-same (times u (times (times (times (times v v) v) (times (times v v) v)) v)) (u * (v * v * v * (v * v * v) * v)) ((prime - 5) / 8)
    (times-same u u (times (times (times (times v v) v) (times (times v v) v)) v) (v * v * v * (v * v * v) * v) refl seventh))

product-is : (v a b : ℕ) → a % prime ≡ b % prime → times v (times a a) ≡ (v * (b * b)) % prime
unfolding times
product-is v a b same =
    same-times prime v v ((a * a) % prime) (b * b) refl (mod-mod (a * a) prime ∙ same-times prime a b a b same same)

chosen : (m n : ℕ) (a b : Option ℕ) → m ≡ n → (if nat_eq m n then a else b) ≡ a
chosen m n a b e = grind (arith, nat_tests)

passed : (m n : ℕ) (a b : Option ℕ) → m ≢ n → (if nat_eq m n then a else b) ≡ b
passed m n a b e = grind (arith, nat_tests)

negative : (w u : ℕ) → u < prime → (w + u) % prime ≡ 0 → w % prime ≡ minus 0 u
unfolding minus
negative w u low e =
    let back : u + (0 + (prime - u)) ≡ prime = omega arith in
    cancel-plus prime u w (0 + (prime - u)) (ap (λ n. n % prime) (omega arith) ∙ e ∙ ap (λ n. n % prime) (sym back))

fourth_root : (v c u : ℕ) → (v * (c * c) + u) % prime ≡ 0 → (v * (c * square_root_of_minus_one * (c * square_root_of_minus_one))) % prime ≡ u % prime
fourth_root v c u e =
    let i : ℕ = square_root_of_minus_one in
    let w : ℕ = v * (c * c) in
    fourth prime i v c u refl e
  where
    fourth : (p i v c u : ℕ) → (i * i + 1) % p ≡ 0 → (v * (c * c) + u) % p ≡ 0 → (v * (c * i * (c * i))) % p ≡ u % p
    fourth p i v c u root e =
        let w : ℕ = v * (c * c) in
        let spread : w + v * (c * i * (c * i)) ≡ w * (i * i + 1) = omega arith in
        cancel-plus p w (v * (c * i * (c * i))) u (ap (λ n. n % p) spread ∙ times-multiple p w (i * i + 1) root ∙ sym e)

pub times-low : (a b : ℕ) → times a b < prime
unfolding times
times-low a b = mod-lt (a * b) (lit< tt)

pub candidate-low : (u v : ℕ) → candidate u v < prime
unfolding candidate
candidate-low u v =
    times-low (times u (times (times v v) v)) (power (times u (times (times (times (times v v) v) (times (times v v) v)) v)) ((prime - 5) / 8))

-- the product by a fourth root of 1
pub turned_root : (u v c : ℕ) → u < prime → times v (times c c) ≡ minus 0 u
    → times v (times (times c square_root_of_minus_one) (times c square_root_of_minus_one)) ≡ u
unfolding times minus
turned_root u v c low e =
    let i : ℕ = square_root_of_minus_one in
    let back : 0 + (prime - u) + u ≡ prime = omega arith in
    let opposed : (v * (c * c) + u) % prime ≡ 0 =
    same-plus prime (v * (c * c)) (0 + (prime - u)) u u
    (same-times prime v v (c * c) ((c * c) % prime) refl (sym (mod-mod (c * c) prime)) ∙ e) refl ∙ ap (λ n. n % prime) back in
    product-is v (times c i) (c * i) (times-same c c i i refl refl) ∙ fourth_root v c u opposed ∙ mod-eq_of_lt low

pub square_root-found : (u v x : ℕ) → u < prime → v % prime ≢ 0 → u % prime ≡ (v * (x * x)) % prime
    → (r : ℕ) × (square_root u v ≡ Some r) × (times v (times r r) ≡ u) × (r < prime)
unfolding square_root
square_root-found u v x low unit e =
    let c : ℕ = candidate u v in
    let i : ℕ = square_root_of_minus_one in
    let b : ℕ = quotient_root ((prime - 5) / 8) u v in
    let product : times v (times c c) ≡ (v * (b * b)) % prime = product-is v c b (candidate-is u v) in
    elim (cases_eq (times v (times c c)) u) [
      | inl same ↦ (c, chosen (times v (times c c)) u _ _ same, same, candidate-low u v)
      | inr apart ↦
          elim (quotient_root-is prime ((prime - 5) / 8) u v x is-prime refl unit e) [
            | inl same ↦ absurd (apart (product ∙ same ∙ mod-eq_of_lt low))
            | inr opposed ↦ (
              times c i,
              passed (times v (times c c)) u _ _ apart ∙ chosen (times v (times c c)) (minus 0 u) _ _ (product ∙ negative (v * (b * b)) u low opposed),
              product-is v (times c i) (b * i) (times-same c b i i (candidate-is u v) refl) ∙ fourth_root v b u opposed ∙ mod-eq_of_lt low,
              times-low c i,
            )
          ]
    ]

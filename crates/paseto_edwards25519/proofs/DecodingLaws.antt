-- The point that an encoded point decodes to.
use Rattle.std.proofs.Common.{◌≡◌, ◌≢◌, ◌⊎◌, ℕ, ◌+◌, ◌-◌, ◌*◌, ◌/◌, ◌%◌, ◌^◌, ◌<◌, List, Some, inl, inr, refl, sym, ◌∙◌, ap, subst, arith, lit<, mod-eq_of_lt, mod-lt, suc-ne-zero}
use Rattle.std.proofs.Math.Nat.{mod-eq-sub-mod, mod-mod}
use Rattle.std.specs.Prelude.{Option, None}
use Rattle.std.proofs.lemmas.Bool.{cases_eq, cases_lt}
use Rattle.paseto_edwards_laws.specs.Group.{Affine, IsOn}
use Rattle.paseto_primes.proofs.CongruenceLaws.{cancel-plus, same-plus, same-times}
use Rattle.paseto_primes.proofs.DivisorLaws.{cancel, times-multiple, without}
use Rattle.paseto_primes.proofs.EulerLaws.{two-roots}
use Rattle.paseto_edwards_laws.proofs.ExtendedLaws.{minus-is, plus-is, times-is}
use Rattle.paseto_edwards_laws.proofs.CurveLaws.{curve}
use Rattle.paseto_primes.specs.Element.{minus as minus_of, plus as plus_of, times as times_of}
use Rattle.paseto_edwards25519.specs.Curve.{IsPoint}
use Rattle.paseto_edwards_laws.specs.Edwards25519.{d, square_root_of_minus_one, prime}
use Rattle.paseto_edwards25519.specs.Encoding.{at, candidate, decoded, encoded, point_of, root_at, square_root}
use Rattle.paseto_edwards25519.specs.Field.{minus, plus, times}
use Rattle.paseto_edwards25519.specs.Scalar.{bytes32, number32}
use Rattle.paseto_edwards25519.proofs.BytesLaws.{number-of_bytes}
use Rattle.paseto_primes.proofs.FieldOfEdwards25519.{is-prime}
use Rattle.paseto_edwards25519.proofs.CurveLaws.{opposite-at}
use Rattle.paseto_edwards25519.proofs.EncodingLaws.{decoded_at, decoded_none, point_negated, point_none, point_of_none, point_same, root_first, root_none, root_second}
use Rattle.paseto_edwards25519.proofs.RootLaws.{candidate-low, square_root-found, times-low, turned_root}

-- y ^ 2 - 1 and d * y ^ 2 + 1
u-is : (y : ℕ) → y < prime → (w : ℕ) → (w + 1) % prime ≡ (y * y) % prime → minus (times y y) 1 % prime ≡ w % prime
unfolding minus times minus_of times_of
u-is y low w e = minus-is prime ((y * y) % prime) 1 w (lit< tt) (e ∙ sym (mod-mod (y * y) prime))

-- and back
u-more : (y : ℕ) → (minus (times y y) 1 + 1) % prime ≡ (y * y) % prime
unfolding minus times
u-more y = omega arith

v-is : (y : ℕ) → plus (times d (times y y)) 1 % prime ≡ (d * (y * y) + 1) % prime
unfolding plus times plus_of times_of
v-is y = plus-is prime ((d * ((y * y) % prime)) % prime) 1 (d * (y * y)) 1 (times-is prime d ((y * y) % prime) d (y * y) refl (mod-mod (y * y) prime)) refl

-- d * y ^ 2 is not -1, which is a square
v-unit : (y : ℕ) → (d * (y * y) + 1) % prime ≢ 0
v-unit y none =
    let i : ℕ = square_root_of_minus_one in
    let root : (i * i + 1) % prime ≡ 0 = refl in
    let square : (i * i) % prime ≡ (d * (y * y)) % prime =
    cancel-plus prime 1 (i * i) (d * (y * y)) (ap (λ k. k % prime) (turn (i * i)) ∙ root ∙ sym none ∙ ap (λ k. k % prime) (sym (turn (d * (y * y))))) in
    let y_none : y % prime ≡ 0 = curve.nonresidue i y square in
    suc-ne-zero 0 (sym (without prime (d * (y * y)) 1 (times-multiple prime d (y * y) (times-multiple prime y y y_none))) ∙ none)
  where
    turn : (k : ℕ) → 1 + k ≡ k + 1
    turn k = omega arith

-- the equation that x solves
solves : (x y : ℕ) → IsOn prime d x y → ((d * (y * y) + 1) * (x * x) + 1) % prime ≡ (y * y) % prime
solves x y on = ap (λ k. k % prime) (spread d x y) ∙ sym on
  where
    spread : (d x y : ℕ) → (d * (y * y) + 1) * (x * x) + 1 ≡ 1 + x * x + d * (x * x * (y * y))
    spread d x y = omega arith

pub minus-low : (a b : ℕ) → minus a b < prime
unfolding minus
minus-low a b = mod-lt (a + (prime - b)) (lit< tt)

product-times : (v r : ℕ) → times v (times r r) % prime ≡ (v * (r * r)) % prime
unfolding times times_of
product-times v r = times-is prime v ((r * r) % prime) v (r * r) refl (mod-mod (r * r) prime)

root-found : (x y : ℕ) → y < prime → IsOn prime d x y
    → (r : ℕ) × (root_at y ≡ Some r) × (r < prime) × ((r % prime ≡ x % prime) ⊎ ((r + x) % prime ≡ 0))
unfolding root_at
root-found x y low on =
    let u : ℕ = minus (times y y) 1 in
    let v : ℕ = plus (times d (times y y)) 1 in
    let e : ℕ = d * (y * y) + 1 in
    let unit : v % prime ≢ 0 = λ none. v-unit y (sym (v-is y) ∙ none) in
    let u_is : u % prime ≡ (v * (x * x)) % prime =
    u-is y low (e * (x * x)) (solves x y on) ∙ same-times prime e v (x * x) (x * x) (sym (v-is y)) refl in
    let found : (r : ℕ) × (square_root u v ≡ Some r) × (times v (times r r) ≡ u) × (r < prime) = square_root-found u v x (u-low y) unit u_is in
    let r : ℕ = found.0 in
    let squares : (r * r) % prime ≡ (x * x) % prime =
    cancel prime v (r * r) (x * x) is-prime unit (sym (product-of v r) ∙ ap (λ k. k % prime) found.2 ∙ u_is) in
    (r, found.1, found.3, two-roots prime r x is-prime squares)
  where
    u-low : (y : ℕ) → minus (times y y) 1 < prime
    u-low y = minus-low (times y y) 1

    product-of : (v r : ℕ) → times v (times r r) % prime ≡ (v * (r * r)) % prime
    product-of v r = product-times v r

sum-cases : (p n : ℕ) → 0 < p → n < 2 * p → n % p ≡ 0 → (n ≡ 0) ⊎ (n ≡ p)
sum-cases p n positive low e =
    elim (cases_lt n p) [
      | inl below ↦ inl (sym (mod-eq_of_lt below) ∙ e)
      | inr above ↦
          let part : n - p < p = omega arith in
          let rest : (n - p) % p ≡ 0 = sym (mod-eq-sub-mod above) ∙ e in
          let none : n - p ≡ 0 = sym (mod-eq_of_lt part) ∙ rest in
          inr (omega arith)
    ]

both-sum : (r x : ℕ) → r + x ≡ 2 ^ 255 - 19 → r % 2 ≡ x % 2 → r ≡ x
both-sum r x e parity = absurd (omega arith)

both : (r x : ℕ) → r < prime → x < prime → (r + x) % prime ≡ 0 → r % 2 ≡ x % 2 → r ≡ x
both r x low_r low e parity =
    elim (sum-cases prime (r + x) (lit< tt) (omega arith) e) [
      | inl none ↦ omega arith
      | inr whole ↦ both-sum r x whole parity
    ]

zero-case : (r x : ℕ) → r ≡ 0 → x < prime → (r + x) % prime ≡ 0 → r % 2 ≡ x % 2
zero-case r x none low e =
    let whole : r + x ≡ x = omega arith in
    let x_is : x ≡ 0 = sym (mod-eq_of_lt low) ∙ ap (λ k. k % prime) (sym whole) ∙ e in
    ap (λ k. k % 2) (none ∙ sym x_is)

negative : (r x : ℕ) → r < prime → x < prime → (r + x) % prime ≡ 0 → r % 2 ≢ x % 2 → minus 0 r ≡ x
unfolding minus
negative r x low_r low e apart =
    elim (sum-cases prime (r + x) (lit< tt) (omega arith) e) [
      | inl none ↦ absurd (apart (zero-case r x (omega arith) low e))
      | inr whole ↦ let x_is : 0 + (prime - r) ≡ x = omega arith in ap (λ k. k % prime) x_is ∙ mod-eq_of_lt low
    ]

sign-at : (x y : ℕ) → x < prime → y < prime → (r : ℕ) → r < prime → (r % prime ≡ x % prime) ⊎ ((r + x) % prime ≡ 0)
    → point_of y (x % 2) (Some r) ≡ Some (at x y)
sign-at x y low low_y r low_r (inl same) =
    let r_is : r ≡ x = sym (mod-eq_of_lt low_r) ∙ same ∙ mod-eq_of_lt low in
    sym (point_same y (x % 2) r (ap (λ k. k % 2) r_is)) ∙ ap (λ k. Some (at k y)) r_is
sign-at x y low low_y r low_r (inr opposed) =
    elim (cases_eq (r % 2) (x % 2)) [
      | inl same ↦
          let r_is : r ≡ x = both r x low_r low opposed same in
          sym (point_same y (x % 2) r same) ∙ ap (λ k. Some (at k y)) r_is
      | inr apart ↦
          sym (point_negated y (x % 2) r apart (λ none. apart (zero-case r x none low opposed)))
          ∙ ap (λ k. Some (at k y)) (negative r x low_r low opposed apart)
    ]

-- a point is what its encoding decodes to
pub decoded-encoded : (a : Affine) → IsPoint a → decoded (encoded a) ≡ Some a
unfolding encoded
decoded-encoded a point =
    let v : ℕ = a.y + 2 ^ 255 * (a.x % 2) in
    let y_low : a.y < prime = point.y_low in
    let found : (r : ℕ) × (root_at a.y ≡ Some r) × (r < prime) × ((r % prime ≡ a.x % prime) ⊎ ((r + a.x) % prime ≡ 0)) =
    root-found a.x a.y y_low point.on in
    sym (decoded_at (bytes32 v) a.y (a.x % 2)
    (y-of a.y (a.x % 2) (mod-lt a.x (lit< tt)) y_low ∙ ap (λ k. k % 2 ^ 255) (sym (number-of_bytes v (low a.y (a.x % 2) (mod-lt a.x (lit< tt)) y_low))))
    (sign-of a.y (a.x % 2) (mod-lt a.x (lit< tt)) y_low ∙ ap (λ k. k / 2 ^ 255) (sym (number-of_bytes v (low a.y (a.x % 2) (mod-lt a.x (lit< tt)) y_low))))
    y_low)
    ∙ ap (λ o. point_of a.y (a.x % 2) o) found.1
    ∙ sign-at a.x a.y point.x_low y_low found.0 found.2 found.3
  where
    low : (y s : ℕ) → s < 2 → y < prime → y + 2 ^ 255 * s < 2 ^ 256
    low y s h k = omega arith

    y-of : (y s : ℕ) → s < 2 → y < prime → y ≡ (y + 2 ^ 255 * s) % 2 ^ 255
    y-of y s h k = omega arith

    sign-of : (y s : ℕ) → s < 2 → y < prime → s ≡ (y + 2 ^ 255 * s) / 2 ^ 255
    sign-of y s h k = omega arith

-- a root gives a point
pub root-on_curve : (x y : ℕ) → x < prime → y < prime
    → times (plus (times d (times y y)) 1) (times x x) ≡ minus (times y y) 1 → IsPoint (at x y)
root-on_curve x y x_low y_low e =
    let u : ℕ = minus (times y y) 1 in
    let v : ℕ = plus (times d (times y y)) 1 in
    let w : ℕ = (d * (y * y) + 1) * (x * x) in
    let product : w % prime ≡ u % prime =
    same-times prime (d * (y * y) + 1) v (x * x) (x * x) (sym (v-is y)) refl ∙ sym (product-times v x) ∙ ap (λ k. k % prime) e in
    record {
      x_low = x_low;
      y_low = y_low;
      on = sym (u-more y) ∙ sym (same-plus prime w u 1 1 product refl) ∙ ap (λ k. k % prime) (spread d x y);
    }
  where
    spread : (d x y : ℕ) → (d * (y * y) + 1) * (x * x) + 1 ≡ 1 + x * x + d * (x * x * (y * y))
    spread d x y = omega arith

-- ---- what is decoded is a point

pub none-some : {A : Type 0} (x : A) → None ≡ Some x → ⊥
none-some x e = cc

pub some-same : {A : Type 0} (x y : A) → Some x ≡ Some y → x ≡ y
some-same x y e = cc

root-squared : (u v x : ℕ) → u < prime → square_root u v ≡ Some x → times v (times x x) ≡ u
root-squared u v x low e =
    let c : ℕ = candidate u v in
    elim (cases_eq (times v (times c c)) u) [
      | inl here ↦
          let is : c ≡ x = some-same c x (root_first u v c refl here ∙ e) in
          subst (λ (r : ℕ). times v (times r r) ≡ u) is here
      | inr apart ↦ elim (cases_eq (times v (times c c)) (minus 0 u)) [
        | inl opposed ↦
            let r : ℕ = times c square_root_of_minus_one in
            let is : r ≡ x = some-same r x (root_second u v c refl apart opposed ∙ e) in
            subst (λ (r : ℕ). times v (times r r) ≡ u) is (turned_root u v c low opposed)
        | inr other ↦ absurd (none-some x (root_none u v c refl apart other ∙ e))
      ]
    ]

root-below : (u v x : ℕ) → square_root u v ≡ Some x → x < prime
root-below u v x e =
    let c : ℕ = candidate u v in
    elim (cases_eq (times v (times c c)) u) [
      | inl here ↦
          let is : c ≡ x = some-same c x (root_first u v c refl here ∙ e) in
          subst (λ (r : ℕ). r < prime) is (candidate-low u v)
      | inr apart ↦ elim (cases_eq (times v (times c c)) (minus 0 u)) [
        | inl opposed ↦
            let r : ℕ = times c square_root_of_minus_one in
            let is : r ≡ x = some-same r x (root_second u v c refl apart opposed ∙ e) in
            subst (λ (r : ℕ). r < prime) is (times-low _ _)
        | inr other ↦ absurd (none-some x (root_none u v c refl apart other ∙ e))
      ]
    ]

root-is_point : (x y : ℕ) → y < prime → root_at y ≡ Some x → IsPoint (at x y)
unfolding root_at
root-is_point x y low e =
    let u : ℕ = minus (times y y) 1 in
    let v : ℕ = plus (times d (times y y)) 1 in
    root-on_curve x y (root-below u v x e) low (root-squared u v x (minus-low (times y y) 1) e)

signed-is_point : (x y sign : ℕ) (a : Affine) → IsPoint (at x y) → point_of y sign (Some x) ≡ Some a → IsPoint a
signed-is_point x y sign a h e = elim (cases_eq (x % 2) sign) [
  | inl same ↦ subst IsPoint (some-same (at x y) a (point_same y sign x same ∙ e)) h
  | inr apart ↦ elim (cases_eq x 0) [
    | inl none ↦ absurd (none-some a (point_none y sign x apart none ∙ e))
    | inr some ↦
        subst IsPoint (some-same (at (minus 0 x) y) a (point_negated y sign x apart some ∙ e)) (opposite-at x y h)
  ]
]

point_of-is_point : (y sign : ℕ) (a : Affine) (o : Option ℕ) → y < prime → root_at y ≡ o → point_of y sign o ≡ Some a → IsPoint a
point_of-is_point y sign a None low is e = absurd (none-some a (point_of_none y sign ∙ e))
point_of-is_point y sign a (Some x) low is e = signed-is_point x y sign a (root-is_point x y low is) e

pub decoded-is_point : (bytes : List ℕ) (a : Affine) → decoded bytes ≡ Some a → IsPoint a
decoded-is_point bytes a e =
    let y : ℕ = number32 bytes % 2 ^ 255 in
    let sign : ℕ = number32 bytes / 2 ^ 255 in
    elim (cases_lt y prime) [
      | inl low ↦ point_of-is_point y sign a (root_at y) low refl (decoded_at bytes y sign refl refl low ∙ e)
      | inr high ↦ absurd (none-some a (decoded_none bytes high ∙ e))
    ]

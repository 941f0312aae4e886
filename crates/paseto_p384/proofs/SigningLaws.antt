-- What is signed is accepted: [e / s]G + [r / s]Q is [k]G.
use Rattle.std.proofs.Common.{◌≡◌, ◌≢◌, ℕ, zero, suc, ◌+◌, ◌*◌, ◌%◌, ◌<◌, ◌⊎◌, inl, inr, [], ◌∷◌, refl, sym, ◌∙◌, ap, ap₂, subst, arith, mod-lt, mod-eq_of_lt}
use Rattle.std.proofs.Math.Nat.{add-mod, mod-mod}
use Rattle.std.proofs.lemmas.Nat.{mul-mod_first, mul-mod_second}
use Rattle.std.proofs.lemmas.Bool.{cases_lt}
use Rattle.paseto_montgomery.specs.Residue.{plus as plus_modulo, times as times_modulo}
use Rattle.paseto_primes.specs.Polynomial.{constant, product}
use Rattle.paseto_primes.proofs.EulerLaws as euler
use Rattle.paseto_primes.proofs.OrderOfP384 as n
use Rattle.paseto_weierstrass_laws.specs.Curve.{order}
use Rattle.paseto_weierstrass_laws.specs.Field.{inverse, prime, times}
use Rattle.paseto_weierstrass_laws.specs.Multiples.{IsMultiple, multiple_of}
use Rattle.paseto_weierstrass_laws.specs.Point.{Point, base}
use Rattle.paseto_weierstrass_laws.proofs.FieldLaws.{fermat, inverse-below, times-below}
use Rattle.paseto_weierstrass_laws.proofs.Formulas.{summing}
use Rattle.paseto_weierstrass_laws.proofs.Identities.{equation, identity, v0, v1, v2, v3}
use Rattle.paseto_weierstrass_laws.proofs.MultipleLaws.{multiple-add, multiple-itself, multiple-times, multiples-same}
use Rattle.paseto_weierstrass_laws.proofs.PointLaws.{base-is_point}
use Rattle.paseto_weierstrass_laws.proofs.OrderLaws.{multiple-finite, multiple-remainder, order-neutral}
use Rattle.paseto_p384.specs.Ecdsa.{Accepts, IsFirst, first, named, second}
use Rattle.paseto_p384.specs.Scalar.{scalar_inverse, scalar_plus, scalar_times}
use Rattle.paseto_p384.proofs.EcdsaLaws.{accepts-of, first-of}

-- the power by n - 2 is the inverse modulo n
pub order-inverse : (a : ℕ) → a % order ≢ 0 → (a * scalar_inverse a) % order ≡ 1
unfolding scalar_inverse
order-inverse a nonzero = euler.inverse order a n.is-prime nonzero

-- (e w + (r w) d) is w (e + r d), modulo n
weighted : (n e r d w : ℕ) → ((e * w) % n + (r * w) % n * d) % n ≡ (w * ((e + (r * d) % n) % n)) % n
weighted n e r d w =
    let flip : e * w ≡ w * e = omega arith in
    let group : r * w * d ≡ w * (r * d) = omega arith in
    let spread : w * (e + (r * d) % n) ≡ w * e + w * ((r * d) % n) = omega arith in
    add-mod ((e * w) % n) ((r * w) % n * d) n
    ∙ ap₂ (λ x y. (x + y) % n)
    (mod-mod (e * w) n ∙ ap (λ x. x % n) flip)
    (mul-mod_first (r * w) d n ∙ ap (λ x. x % n) group ∙ sym (mul-mod_second w (r * d) n))
    ∙ sym (add-mod (w * e) (w * ((r * d) % n)) n) ∙ ap (λ x. x % n) (sym spread)
    ∙ sym (mul-mod_second w (e + (r * d) % n) n)

-- where s is m / k and w is 1 / s, w m is k
restored : (n k i m w : ℕ) → (k * i) % n ≡ 1 → (((i * m) % n) * w) % n ≡ 1 → (w * m) % n ≡ k % n
restored n k i m w inv inv' =
    let s : ℕ = (i * m) % n in
    let group : k * (i * m) ≡ k * i * m = omega arith in
    let unit : 1 * m ≡ m = omega arith in
    let unit' : k * 1 ≡ k = omega arith in
    let m_is : (k * s) % n ≡ m % n =
    mul-mod_second k (i * m) n ∙ ap (λ x. x % n) group ∙ sym (mul-mod_first (k * i) m n) ∙ ap (λ x. (x * m) % n) inv ∙ ap (λ x. x % n) unit in
    let turn : w * (k * s) ≡ k * (s * w) = turned w k s in
    sym (mul-mod_second w m n) ∙ ap (λ x. (w * x) % n) (sym m_is) ∙ mul-mod_second w (k * s) n ∙ ap (λ x. x % n) turn
    ∙ sym (mul-mod_second k (s * w) n) ∙ ap (λ x. (k * x) % n) inv' ∙ ap (λ x. x % n) unit'
  where
    turned : (w k s : ℕ) → w * (k * s) ≡ k * (s * w)
    turned w k s = omega arith

-- u1 + u2 d is k
scalars : (d e k r s : ℕ) → k % order ≢ 0 → s % order ≢ 0 → s ≡ second d e k r
    → (scalar_times (e % order) (scalar_inverse s) + scalar_times r (scalar_inverse s) * d) % order ≡ k % order
unfolding second scalar_times scalar_plus times_modulo plus_modulo
scalars d e k r s hk hs is =
    let w = scalar_inverse s in
    let i = scalar_inverse k in
    let m : ℕ = (e % order + (r * d) % order) % order in
    let inv' : (((i * m) % order) * w) % order ≡ 1 = subst (λ x. (x * w) % order ≡ 1) is (order-inverse s hs) in
    weighted order (e % order) r d w ∙ restored order k i m w (order-inverse k hk) inv'

-- R is [k]G
named-multiple : (q : Point) (d e k r s : ℕ) → IsMultiple base q d → k < order → k ≢ 0 → s < order → s ≢ 0 → s ≡ second d e k r
    → IsMultiple base (named q e r s) k
unfolding named
named-multiple q d e k r s hq hk nk hs ns is =
    let w = scalar_inverse s in
    let u = scalar_times (e % order) w in
    let v = scalar_times r w in
    let reduced_k : k % order ≡ k = mod-eq_of_lt hk in
    let reduced_s : s % order ≡ s = mod-eq_of_lt hs in
    let joint = multiple-add base (multiple_of u base) (multiple_of v q) u (v * d) base-is_point (multiple-itself u base base-is_point)
    (multiple-times base q v d base-is_point hq) in
    let number = scalars d e k r s (λ z. nk (sym reduced_k ∙ z)) (λ z. ns (sym reduced_s ∙ z)) is ∙ reduced_k in
    subst (IsMultiple base (named q e r s)) number (multiple-remainder base (named q e r s) order (u + v * d) base-is_point order-neutral joint)

ratio_x : (x z i r : ℕ) → x < prime → z < prime → i < prime → r < prime → times z i ≡ 1 → times (times x i) (times r z) ≡ times r x
unfolding summing
ratio_x x z i r hx hz hi hr inv =
    identity 4 (x ∷ z ∷ i ∷ r ∷ []) (hx, (hz, (hi, (hr, tt))))
    (equation (product v0 v3) (product v1 v2) (constant 1) ∷ []) (inv, tt)
    (product (product v0 v2) (product v3 v1)) (product v3 v0) refl

-- the first half by the quotient of the coordinates
first_cases : (v r : ℕ) → v < prime → r ≡ v % order → (v ≡ r) ⊎ ((r + order < prime) × (v ≡ r + order))
first_cases v r h e = elim (cases_lt v order) [
  | inl low ↦ inl (sym (e ∙ mod-eq_of_lt low))
  | inr high ↦
      let whole : v ≡ r + order = omega arith in
      inr (omega arith, whole)
]

-- the points of one multiple of G have the coordinate X / Z in common
is-first : (p q : Point) (k r : ℕ) → IsMultiple base p k → IsMultiple base q k → k < order → k ≢ 0
    → r ≡ times q.x (inverse q.z) % order → IsFirst p r
is-first p q k r hp hq below nonzero e =
    let reduced : k % order ≡ k = mod-eq_of_lt below in
    let p_some = multiple-finite p k hp (λ z. nonzero (sym reduced ∙ z)) in
    let q_some = multiple-finite q k hq (λ z. nonzero (sym reduced ∙ z)) in
    let s = multiples-same base q p k base-is_point hq hp in
    let i = inverse q.z in
    let v = times q.x i in
    let inv = fermat q.z hq.point.z_below q_some in
    let same : times v p.z ≡ p.x =
    ap (times v) s.z ∙ ratio_x q.x q.z i s.ratio hq.point.x_below hq.point.z_below (inverse-below q.z) s.below inv ∙ sym s.x in
    first-of p r (
      p_some,
      elim (first_cases v r (times-below q.x i) e) [
        | inl f ↦ inl (ap (λ w. times w p.z) (sym f) ∙ same)
        | inr f ↦ inr (f.0, ap (λ w. times w p.z) (sym f.1) ∙ same)
      ],
    )

pub second-below : (d e k r : ℕ) → second d e k r < order
unfolding second scalar_times times_modulo
second-below d e k r = mod-lt _ (omega arith)

pub first-below : (k : ℕ) → first k < order
unfolding first
first-below k = mod-lt _ (omega arith)

first-is : (k : ℕ) → first k ≡ times (multiple_of k base).x (inverse (multiple_of k base).z) % order
unfolding first
first-is k = refl

pub positive : (n : ℕ) → n ≢ 0 → 0 < n
positive zero h = absurd (h refl)
positive (suc n) h = omega arith

-- the law of signing
pub signed-accepts : (q : Point) (d e k : ℕ) → IsMultiple base q d → k < order → k ≢ 0
    → first k ≢ 0 → second d e k (first k) ≢ 0 → Accepts q e (first k) (second d e k (first k))
signed-accepts q d e k hq below nonzero nr ns =
    let r = first k in
    let s = second d e k r in
    let r_is = named-multiple q d e k r s hq below nonzero (second-below d e k r) ns refl in
    accepts-of q e r s (
      (positive r nr, first-below k),
      (positive s ns, second-below d e k r),
      is-first (named q e r s) (multiple_of k base) k r r_is (multiple-itself k base base-is_point) below nonzero (first-is k),
    )

pub nonzero-of_positive : (n : ℕ) → 0 < n → n ≢ 0
nonzero-of_positive n h e = absurd (omega arith)

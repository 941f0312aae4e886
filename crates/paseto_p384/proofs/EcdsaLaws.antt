-- The cases of verifying and signing.
use Rattle.std.proofs.Common.{◌≡◌, ◌≢◌, ◌⊎◌, ℕ, ◌+◌, ◌%◌, ◌<◌, inl, inr, [], ◌∷◌, refl, sym, ◌∙◌, ap, arith}
use Rattle.paseto_primes.specs.Polynomial.{product}
use Rattle.std.specs.Prelude.{None, Some}
use Rattle.std.proofs.lemmas.Bool.Decides.{nat_tests}
use Rattle.paseto_weierstrass_laws.specs.Curve.{order}
use Rattle.paseto_p384.specs.Ecdsa.{Accepts, IsFirst, attempt, first, halves, named, nonzero, second}
use Rattle.paseto_weierstrass_laws.specs.Field.{inverse, prime, times}
use Rattle.paseto_weierstrass_laws.specs.Multiples.{IsMultiple, multiple_of}
use Rattle.paseto_weierstrass_laws.specs.Point.{Point, base}
use Rattle.paseto_weierstrass_laws.proofs.MultipleLaws.{multiple-is_point}
use Rattle.paseto_weierstrass_laws.proofs.PointLaws.{base-is_point, same-is_point, same-quotient, same_sym}
use Rattle.paseto_weierstrass_laws.proofs.SumLaws.{sum-is_point}
use Rattle.paseto_weierstrass_laws.proofs.FieldLaws.{times-ne-zero}
use Rattle.paseto_weierstrass_laws.proofs.Formulas.{summing}
use Rattle.paseto_weierstrass_laws.proofs.Identities.{equation, identity, v0, v1, v2, v3}
use Rattle.paseto_weierstrass_laws.specs.Group.{IsPoint, Same}

pub first-parts : (p : Point) (r : ℕ) → IsFirst p r
    → (p.z ≢ 0) × ((times r p.z ≡ p.x) ⊎ ((r + order < prime) × (times (r + order) p.z ≡ p.x)))
unfolding IsFirst
first-parts p r h = h

pub first-of : (p : Point) (r : ℕ)
    → (p.z ≢ 0) × ((times r p.z ≡ p.x) ⊎ ((r + order < prime) × (times (r + order) p.z ≡ p.x))) → IsFirst p r
unfolding IsFirst
first-of p r h = h

-- the quotient X / Z of any coordinates of [k]G
pub first-is : (p : Point) (k : ℕ) → IsMultiple base p k → times p.x (inverse p.z) % order ≡ first k
unfolding first
first-is p k h =
    let g = multiple_of k base in
    let s = h.same in
    ap (λ n. n % order)
    (same-quotient g.x g.z p.x p.z s.ratio (multiple-is_point k base base-is_point).x_below s.below s.nonzero s.x s.z)

pub accepts-parts : (q : Point) (e r s : ℕ) → Accepts q e r s
    → ((0 < r) × (r < order)) × ((0 < s) × (s < order)) × IsFirst (named q e r s) r
unfolding Accepts
accepts-parts q e r s h = h

pub accepts-of : (q : Point) (e r s : ℕ)
    → ((0 < r) × (r < order)) × ((0 < s) × (s < order)) × IsFirst (named q e r s) r → Accepts q e r s
unfolding Accepts
accepts-of q e r s h = h

pub attempt-outside : (d e k : ℕ) → ((0 < k) × (k < order) → ⊥) → None ≡ attempt d e k
unfolding attempt
attempt-outside d e k h = grind (arith, nat_tests, h)

pub attempt-at : (d e k r s : ℕ) → (0 < k) × (k < order) → r ≡ first k → s ≡ second d e k r → nonzero r s ≡ attempt d e k
unfolding attempt
attempt-at d e k r s h f g = rw (g, f) (grind (arith, nat_tests))

pub nonzero-first : (r s : ℕ) → r < order → ((0 < r) × (r < order) → ⊥) → None ≡ nonzero r s
unfolding nonzero
nonzero-first r s below h = let none : r ≡ 0 = grind (arith, h) in grind (arith, nat_tests)

pub nonzero-second : (r s : ℕ) → s < order → ((0 < s) × (s < order) → ⊥) → None ≡ nonzero r s
unfolding nonzero
nonzero-second r s below h = let none : s ≡ 0 = grind (arith, h) in grind (arith, nat_tests)

pub nonzero-both : (r s : ℕ) → 0 < r → 0 < s → Some (halves r s) ≡ nonzero r s
unfolding nonzero
nonzero-both r s f g = grind (arith, nat_tests)

pub named-is_point : (q : Point) (e r s : ℕ) → IsPoint q → IsPoint (named q e r s)
unfolding named
named-is_point q e r s h =
    sum-is_point _ _ (multiple-is_point _ base base-is_point) (multiple-is_point _ q h)

-- coordinates of the same point have the first half in common
scaled-first : (v x z c : ℕ) → x < prime → z < prime → c < prime → v < prime → times v z ≡ x → times v (times c z) ≡ times c x
unfolding summing
scaled-first v x z c hx hz hc hv e =
    identity 4 (v ∷ x ∷ z ∷ c ∷ []) (hv, (hx, (hz, (hc, tt))))
    (equation v3 (product v0 v2) v1 ∷ []) (e, tt) (product v0 (product v3 v2)) (product v3 v1) refl

first-scaled : (p q : Point) (v : ℕ) → v < prime → IsPoint p → Same p q → times v p.z ≡ p.x → times v q.z ≡ q.x
first-scaled p q v low h s e =
    ap (times v) s.z ∙ scaled-first v p.x p.z s.ratio h.x_below h.z_below s.below low e ∙ sym s.x

first-from : (p q : Point) (r : ℕ) → r < prime → IsPoint p → Same p q → IsFirst p r → IsFirst q r
first-from p q r low h s f =
    let parts = first-parts p r f in
    let some : q.z ≢ 0 = λ e. times-ne-zero s.ratio p.z s.below h.z_below s.nonzero parts.0 (sym s.z ∙ e) in
    first-of q r (
      some,
      elim parts.1 [
        | inl e ↦ inl (first-scaled p q r low h s e)
        | inr e ↦ inr (e.0, first-scaled p q (r + order) e.0 h s e.1)
      ],
    )

pub first-same : (p q : Point) (r : ℕ) → r < prime → IsPoint p → Same p q → (IsFirst p r → IsFirst q r) × (IsFirst q r → IsFirst p r)
first-same p q r low h s =
    let hq = same-is_point h s in
    (first-from p q r low h s, first-from q p r low hq (same_sym h hq s))

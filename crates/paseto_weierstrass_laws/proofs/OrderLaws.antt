-- The order of the base point: the prover computes [n]G.
use Rattle.std.proofs.Common.{◌≡◌, ◌≢◌, ℕ, zero, suc, ◌+◌, ◌*◌, ◌/◌, ◌%◌, inl, inr, refl, sym, ◌∙◌, ap, subst, arith, div-add-mod', lit<}
use Rattle.paseto_primes.specs.Prime.{IsPrime}
use Rattle.paseto_primes.proofs.DivisorLaws.{gcd-within}
use Rattle.paseto_primes.proofs.OrderOfP384.{is-prime}
use Rattle.paseto_weierstrass_laws.specs.Curve.{order}
use Rattle.paseto_weierstrass_laws.specs.Group.{IsPoint, Same}
use Rattle.paseto_weierstrass_laws.specs.Multiples.{IsMultiple, joint_multiple, multiple_of, point_add_by}
use Rattle.paseto_weierstrass_laws.specs.Point.{Point, base, neutral, point_add}
use Rattle.paseto_weierstrass_laws.proofs.FieldLaws.{times_unit}
use Rattle.paseto_weierstrass_laws.proofs.Formulas.{summing}
use Rattle.paseto_weierstrass_laws.proofs.MultipleLaws.{joint-sum, multiple-add, multiple-is_point, multiple-itself, multiple-neutral, multiple-of_same, multiple-one, multiple-times, multiples-same, sum-one_point}
use Rattle.paseto_weierstrass_laws.proofs.PointLaws.{base-is_point, neutral-is_point, neutral-same, same_refl, same_sym, same_trans}
use Rattle.paseto_weierstrass_laws.proofs.SumLaws.{sum-is_point, sum-neutral, sum-neutral_first}

computed : (joint_multiple base neutral 384 order 0).z ≡ 0
unfolding summing joint_multiple point_add_by
computed = refl

-- [n]G is neutral
pub order-neutral : IsMultiple base neutral order
order-neutral =
    let p = joint_multiple base neutral 384 order 0 in
    let joint = sum-one_point base neutral p 0 order 0 base-is_point (multiple-neutral base)
    (joint-sum base neutral 384 order 0 base-is_point neutral-is_point (lit< tt) (lit< tt)) in
    multiple-of_same base p neutral order base-is_point joint (neutral-same p joint.point computed)

-- multiples of the neutral point, and those by a multiple of a number that gives it
neutral-multiple : (m : ℕ) → Same (multiple_of m neutral) neutral
unfolding multiple_of
neutral-multiple zero = same_refl neutral neutral-is_point
neutral-multiple (suc m) =
    let h = multiple-is_point m neutral neutral-is_point in
    let sum = sum-is_point (multiple_of m neutral) neutral h neutral-is_point in
    same_trans sum (same_sym h sum (sum-neutral (multiple_of m neutral) h)) (neutral-multiple m)

pub neutral-times : (g : Point) (m n : ℕ) → IsPoint g → IsMultiple g neutral n → IsMultiple g neutral (m * n)
neutral-times g m n hg h =
    multiple-of_same g (multiple_of m neutral) neutral (m * n) hg (multiple-times g neutral m n hg h) (neutral-multiple m)

-- only the remainder by a number that gives the neutral point counts
pub multiple-remainder : (g p : Point) (n k : ℕ) → IsPoint g → IsMultiple g neutral n → IsMultiple g p k → IsMultiple g p (k % n)
multiple-remainder g p n k hg none h =
    let whole : k / n * n + k % n ≡ k = div-add-mod' k n in
    let f = multiple_of (k % n) g in
    let hf = multiple-is_point (k % n) g hg in
    let sum : IsMultiple g (point_add neutral f) k = subst (IsMultiple g (point_add neutral f)) whole
    (multiple-add g neutral f (k / n * n) (k % n) hg (neutral-times g (k / n) n hg none) (multiple-itself (k % n) g hg)) in
    record { point = h.point; same = same_trans hf (sum-neutral_first f hf) (multiples-same g (point_add neutral f) p k hg sum h) }

base-not_neutral : Same base neutral → ⊥
base-not_neutral s = s.nonzero (times_unit s.ratio s.below ∙ sym s.z)

-- which multiples of a point are neutral, where its multiple by n is
pub order-divides : (g : Point) (k : ℕ) → IsPoint g → (Same g neutral → ⊥) → IsMultiple g neutral order → IsMultiple g neutral k → k % order ≡ 0
unfolding IsPrime
order-divides g k hg some none h =
    let r : (m : ℕ) × IsMultiple g neutral m × (order % m ≡ 0) × (k % m ≡ 0) =
    gcd-within (λ n. IsMultiple g neutral n) (λ x y positive f e. multiple-remainder g neutral y x hg e f) (suc k) order k
    (omega arith) none h in
    elim (is-prime.1 r.0 r.2) [
      | inl one ↦ absurd (some (multiples-same g g neutral 1 hg (multiple-one g hg) (subst (IsMultiple g neutral) one r.1)))
      | inr same ↦ ap (λ n. k % n) (sym same) ∙ r.3
    ]

-- which multiples of G are neutral
pub neutral-multiples : (k : ℕ) → IsMultiple base neutral k → k % order ≡ 0
neutral-multiples k h = order-divides base k base-is_point base-not_neutral order-neutral h

pub divided-neutral : (k : ℕ) → k % order ≡ 0 → IsMultiple base neutral k
divided-neutral k e =
    let whole : k / order * order + k % order ≡ k = div-add-mod' k order in
    let times : k / order * order ≡ k = omega (arith, whole, e) in
    subst (IsMultiple base neutral) times (neutral-times base (k / order) order base-is_point order-neutral)

-- a multiple of G by a number that n does not divide has a Z
pub multiple-finite : (p : Point) (k : ℕ) → IsMultiple base p k → k % order ≢ 0 → p.z ≢ 0
multiple-finite p k h some none =
    some (neutral-multiples k (multiple-of_same base p neutral k base-is_point h (neutral-same p h.point none)))

-- The order of the base point.
use Rattle.std.proofs.Common.{◌≡◌, ℕ, ◌+◌, ◌-◌, ◌*◌, ◌%◌, ◌<◌, ◌≤◌, sym, ap, ◌∙◌, arith, inl, inr, mod-eq_of_lt}
use Rattle.std.proofs.lemmas.Bool.{cases_lt}
use Rattle.paseto_edwards_laws.specs.Group.{Affine, neutral}
use Rattle.paseto_edwards_laws.specs.Edwards25519.{base, d, order, prime}
use Rattle.paseto_edwards_laws.proofs.CurveLaws.{base-point, curve}
use Rattle.paseto_edwards_laws.proofs.GroupLaws.{sum-neutral}
use Rattle.paseto_edwards_laws.proofs.MultipleLaws.{verifies}
use Rattle.paseto_edwards_laws.proofs.OrderLaws.{base-multiples, order-neutral}
use Rattle.paseto_edwards25519.specs.Curve.{HasSmallOrder, IsPoint, multiple, opposite, sum}
use Rattle.paseto_edwards25519.proofs.CurveLaws.{associative, multiple-add, multiple-is_point, multiple-of_multiple, neutral-is_point, neutral-right, opposite-is_point, sum-with_opposite}

-- what a verifier adds up
pub verifier-sum : (r k n : ℕ)
    → sum (multiple ((r + k * n) % order) base) (multiple k (opposite (multiple n base))) ≡ multiple r base
verifier-sum r k n = verifies prime d curve order r k n base base-point order-neutral

pub small-divides : (n : ℕ) → HasSmallOrder (multiple n base) → n % order ≡ 0
small-divides n small =
    let whole : (8 * n) % order ≡ 0 = (base-multiples (8 * n)).0 (sym (multiple-of_multiple 8 n base base-point) ∙ small) in
    omega (arith, whole)

-- ---- one multiple of one number

-- what is common to two sums that are the same falls out
pub cancel : (m n x : Affine) → IsPoint m → IsPoint n → IsPoint x → sum m x ≡ sum n x → m ≡ n
cancel m n x hm hn hx e =
    let back : (a : Affine) → IsPoint a → sum (sum a x) (opposite x) ≡ a =
    λ a ha. associative a x (opposite x) ha hx (opposite-is_point x hx) ∙ ap (λ (q : Affine). sum a q) (sum-with_opposite x hx) ∙ neutral-right a ha in
    sym (back m hm) ∙ ap (λ (q : Affine). sum q (opposite x)) e ∙ back n hn

-- of two numbers below the order that give one multiple, the greater is not greater
lower : (s t : ℕ) → s ≤ t → t < order → multiple s base ≡ multiple t base → s ≡ t
lower s t le low e =
    let k : ℕ = t - s in
    let whole : k + s ≡ t = omega arith in
    let point = multiple-is_point s base base-point in
    let parts : sum (multiple k base) (multiple s base) ≡ sum neutral (multiple s base) =
    multiple-add k s base base-point ∙ ap (λ (n : ℕ). multiple n base) whole ∙ sym e
    ∙ sym (sum-neutral prime d curve (multiple s base) point) in
    let none : multiple k base ≡ neutral =
    cancel (multiple k base) neutral (multiple s base) (multiple-is_point k base base-point) neutral-is_point point parts in
    let small : k < order = omega arith in
    let zero_k : k ≡ 0 = sym (mod-eq_of_lt small) ∙ (base-multiples k).0 none in
    omega (arith, zero_k)

pub one-multiple : (s t : ℕ) → s < order → t < order → multiple s base ≡ multiple t base → s ≡ t
one-multiple s t hs ht e = elim (cases_lt s t) [
  | inl less ↦ lower s t (omega arith) ht e
  | inr more ↦ sym (lower t s more hs (sym e))
]

-- Double and add, in extended coordinates, gives multiples of a point.
use Rattle.std.proofs.Common.{◌≡◌, ℕ, zero, suc, ◌+◌, ◌*◌, ◌/◌, ◌%◌, ◌^◌, ◌<◌, sym, ◌∙◌, ap, subst, arith}
use Rattle.std.proofs.Math.Nat.{zero-mod}
use Rattle.paseto_primes.proofs.CongruenceLaws.{other}
use Rattle.paseto_primes.proofs.DivisorLaws.{cancel}
use Rattle.paseto_edwards_laws.specs.Extended.{Extended, Stands, added, doubled, of_affine}
use Rattle.paseto_edwards_laws.specs.Group.{Affine, IsComplete, neutral, sum}
use Rattle.paseto_edwards_laws.specs.Multiples.{multiple_of}
use Rattle.paseto_edwards_laws.proofs.ExtendedLaws.{added-stands, affine-stands, doubled-stands}
use Rattle.paseto_edwards_laws.proofs.GroupLaws.{neutral-point, same-point}
use Rattle.paseto_edwards_laws.proofs.MultipleLaws.{multiple-one, multiple-plus}

-- one point more, or none
unfoldable pub step : ℕ → ℕ → ℕ → Extended → Extended → Extended
step p d zero q r = r
step p d (suc n) q r = added p d r q

-- the multiple of a point by a number below 2 ^ bits
unfoldable pub multiple : ℕ → ℕ → ℕ → ℕ → Extended → Extended
multiple p d zero n q = of_affine p neutral
multiple p d (suc bits) n q = step p d (n % 2) q (doubled p (multiple p d bits (n / 2) q))

step-stands : (p d : ℕ) → IsComplete p d → (q r : Extended) (a : Affine) (m n : ℕ) → n < 2 → Stands p d q a → Stands p d r (multiple_of p d m a)
    → Stands p d (step p d n q r) (multiple_of p d (m + n) a)
unfolding step
step-stands p d curve q r a m zero low qa ra =
    let e : m ≡ m + 0 = omega arith in
    subst (λ k. Stands p d r (multiple_of p d k a)) e ra
step-stands p d curve q r a m (suc zero) low qa ra =
    subst (λ b. Stands p d (added p d r q) b)
    (ap (λ b. sum p d (multiple_of p d m a) b) (sym (multiple-one p d curve a qa.point)) ∙ sym (multiple-plus p d curve m 1 a qa.point))
    (added-stands p d curve r q (multiple_of p d m a) a ra qa)
step-stands p d curve q r a m (suc (suc n)) low qa ra = absurd (omega arith)

pub multiple-stands : (p d : ℕ) → IsComplete p d → (bits n : ℕ) (q : Extended) (a : Affine) → n < 2 ^ bits → Stands p d q a
    → Stands p d (multiple p d bits n q) (multiple_of p d n a)
unfolding multiple multiple_of
multiple-stands p d curve zero n q a low qa =
    let none : 0 ≡ n = omega arith in
    subst (λ k. Stands p d (of_affine p neutral) (multiple_of p d k a)) none (affine-stands p d curve neutral (neutral-point p d curve))
multiple-stands p d curve (suc bits) n q a low qa =
    let half : ℕ = n / 2 in
    let fits : half < 2 ^ bits = omega arith in
    let parts : half + half + n % 2 ≡ n = omega arith in
    let twice : sum p d (multiple_of p d half a) (multiple_of p d half a) ≡ multiple_of p d (half + half) a = sym (multiple-plus p d curve half half a qa.point) in
    subst (λ k. Stands p d (step p d (n % 2) q (doubled p (multiple p d bits half q))) (multiple_of p d k a)) parts
    (step-stands p d curve q (doubled p (multiple p d bits half q)) a (half + half) (n % 2) (omega arith) qa
    (subst (λ b. Stands p d (doubled p (multiple p d bits half q)) b) twice
    (doubled-stands p d curve (multiple p d bits half q) (multiple_of p d half a) (multiple-stands p d curve bits half q a fits qa))))

-- the point that stands where X is 0 and Y is Z
pub neutral-stands : (p d : ℕ) → IsComplete p d → (q : Extended) (a : Affine) → Stands p d q a → q.x ≡ 0 → q.y ≡ q.z → a ≡ neutral
neutral-stands p d curve q a qa x_is y_is =
    same-point p d a neutral qa.point (neutral-point p d curve)
    (other p q.z a.x curve.prime qa.unit (ap (λ k. k % p) (turn q.z a.x) ∙ sym qa.x_is ∙ ap (λ k. k % p) x_is ∙ zero-mod p) ∙ sym (zero-mod p))
    (cancel p q.z a.y 1 curve.prime qa.unit (ap (λ k. k % p) (turn q.z a.y) ∙ sym qa.y_is ∙ ap (λ k. k % p) (y_is ∙ one q.z)))
  where
    turn : (z c : ℕ) → z * c ≡ c * z
    turn z c = omega arith

    one : (z : ℕ) → z ≡ z * 1
    one z = omega arith

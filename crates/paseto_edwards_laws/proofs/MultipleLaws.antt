-- Multiples of a point.
use Rattle.std.proofs.Common.{◌≡◌, ◌≢◌, ℕ, zero, suc, ◌+◌, ◌*◌, ◌/◌, ◌%◌, inl, inr, refl, sym, ◌∙◌, ap, arith, div-add-mod'}
use Rattle.paseto_edwards_laws.specs.Group.{Affine, IsComplete, IsPoint, neutral, opposite, sum}
use Rattle.paseto_primes.specs.Prime.{IsPrime}
use Rattle.paseto_primes.proofs.DivisorLaws.{gcd-within}
use Rattle.paseto_edwards_laws.specs.Multiples.{multiple_of}
use Rattle.paseto_edwards_laws.proofs.GroupLaws.{neutral-point, opposite-point, sum-associative, sum-commutative, sum-neutral, sum-opposite, sum-point}

pub neutral-sum : (p d : ℕ) → IsComplete p d → (a : Affine) → IsPoint p d a → sum p d a neutral ≡ a
neutral-sum p d curve a a_is = sum-commutative p d a neutral ∙ sum-neutral p d curve a a_is

pub multiple-point : (p d : ℕ) → IsComplete p d → (n : ℕ) (a : Affine) → IsPoint p d a → IsPoint p d (multiple_of p d n a)
unfolding multiple_of
multiple-point p d curve zero a a_is = neutral-point p d curve
multiple-point p d curve (suc n) a a_is = sum-point p d curve (multiple_of p d n a) a (multiple-point p d curve n a a_is) a_is

pub multiple-one : (p d : ℕ) → IsComplete p d → (a : Affine) → IsPoint p d a → multiple_of p d 1 a ≡ a
unfolding multiple_of
multiple-one p d curve a a_is = sum-neutral p d curve a a_is

pub multiple-plus : (p d : ℕ) → IsComplete p d → (m n : ℕ) (a : Affine) → IsPoint p d a
    → multiple_of p d (m + n) a ≡ sum p d (multiple_of p d m a) (multiple_of p d n a)
unfolding multiple_of
multiple-plus p d curve m zero a a_is =
    let e : m + 0 ≡ m = omega arith in
    ap (λ k. multiple_of p d k a) e ∙ sym (neutral-sum p d curve (multiple_of p d m a) (multiple-point p d curve m a a_is))
multiple-plus p d curve m (suc n) a a_is =
    let e : m + suc n ≡ suc (m + n) = omega arith in
    ap (λ k. multiple_of p d k a) e ∙ ap (λ b. sum p d b a) (multiple-plus p d curve m n a a_is)
    ∙ sum-associative p d curve (multiple_of p d m a) (multiple_of p d n a) a (multiple-point p d curve m a a_is) (multiple-point p d curve n a a_is) a_is

pub multiple-times : (p d : ℕ) → IsComplete p d → (m n : ℕ) (a : Affine) → IsPoint p d a
    → multiple_of p d (m * n) a ≡ multiple_of p d m (multiple_of p d n a)
unfolding multiple_of
multiple-times p d curve zero n a a_is = let e : 0 * n ≡ 0 = omega arith in ap (λ k. multiple_of p d k a) e
multiple-times p d curve (suc m) n a a_is =
    let e : suc m * n ≡ m * n + n = omega arith in
    ap (λ k. multiple_of p d k a) e ∙ multiple-plus p d curve (m * n) n a a_is
    ∙ ap (λ b. sum p d b (multiple_of p d n a)) (multiple-times p d curve m n a a_is)

pub multiple-neutral : (p d : ℕ) → IsComplete p d → (n : ℕ) → multiple_of p d n neutral ≡ neutral
unfolding multiple_of
multiple-neutral p d curve zero = refl
multiple-neutral p d curve (suc n) =
    ap (λ b. sum p d b neutral) (multiple-neutral p d curve n) ∙ sum-neutral p d curve neutral (neutral-point p d curve)

-- only the remainder by a number that gives the neutral point counts
pub multiple-remainder : (p d : ℕ) → IsComplete p d → (l n : ℕ) (a : Affine) → IsPoint p d a → multiple_of p d l a ≡ neutral
    → multiple_of p d (n % l) a ≡ multiple_of p d n a
multiple-remainder p d curve l n a a_is e =
    let whole : n / l * l + n % l ≡ n = div-add-mod' n l in
    sym (ap (λ k. multiple_of p d k a) (sym whole) ∙ multiple-plus p d curve (n / l * l) (n % l) a a_is
    ∙ ap (λ b. sum p d b (multiple_of p d (n % l) a))
    (multiple-times p d curve (n / l) l a a_is ∙ ap (λ b. multiple_of p d (n / l) b) e ∙ multiple-neutral p d curve (n / l))
    ∙ sum-neutral p d curve (multiple_of p d (n % l) a) (multiple-point p d curve (n % l) a a_is))

-- (a + b) + (c + e) is (a + c) + (b + e)
pub sum-four : (p d : ℕ) → IsComplete p d → (a b c e : Affine) → IsPoint p d a → IsPoint p d b → IsPoint p d c → IsPoint p d e
    → sum p d (sum p d a b) (sum p d c e) ≡ sum p d (sum p d a c) (sum p d b e)
sum-four p d curve a b c e a_is b_is c_is e_is =
    sum-associative p d curve a b (sum p d c e) a_is b_is (sum-point p d curve c e c_is e_is)
    ∙ ap (λ q. sum p d a q)
    (sym (sum-associative p d curve b c e b_is c_is e_is) ∙ ap (λ q. sum p d q e) (sum-commutative p d b c)
    ∙ sum-associative p d curve c b e c_is b_is e_is)
    ∙ sym (sum-associative p d curve a c (sum p d b e) a_is c_is (sum-point p d curve b e b_is e_is))

pub multiple-sum : (p d : ℕ) → IsComplete p d → (n : ℕ) (a b : Affine) → IsPoint p d a → IsPoint p d b
    → multiple_of p d n (sum p d a b) ≡ sum p d (multiple_of p d n a) (multiple_of p d n b)
unfolding multiple_of
multiple-sum p d curve zero a b a_is b_is = sym (sum-neutral p d curve neutral (neutral-point p d curve))
multiple-sum p d curve (suc n) a b a_is b_is =
    ap (λ q. sum p d q (sum p d a b)) (multiple-sum p d curve n a b a_is b_is)
    ∙ sum-four p d curve (multiple_of p d n a) (multiple_of p d n b) a b (multiple-point p d curve n a a_is) (multiple-point p d curve n b b_is) a_is b_is

-- what a verifier of s = r + k * a computes, [s]b + [k](-[a]b), is [r]b
pub verifies : (p d : ℕ) → IsComplete p d → (l r k n : ℕ) (b : Affine) → IsPoint p d b → multiple_of p d l b ≡ neutral
    → sum p d (multiple_of p d ((r + k * n) % l) b) (multiple_of p d k (opposite p (multiple_of p d n b))) ≡ multiple_of p d r b
verifies p d curve l r k n b b_is e =
    let a : Affine = multiple_of p d n b in
    let a_is : IsPoint p d a = multiple-point p d curve n b b_is in
    let o_is : IsPoint p d (opposite p a) = opposite-point p d curve a a_is in
    let first : multiple_of p d ((r + k * n) % l) b ≡ sum p d (multiple_of p d r b) (multiple_of p d k a) =
    multiple-remainder p d curve l (r + k * n) b b_is e ∙ multiple-plus p d curve r (k * n) b b_is
    ∙ ap (λ q. sum p d (multiple_of p d r b) q) (multiple-times p d curve k n b b_is) in
    ap (λ q. sum p d q (multiple_of p d k (opposite p a))) first
    ∙ sum-associative p d curve (multiple_of p d r b) (multiple_of p d k a) (multiple_of p d k (opposite p a))
    (multiple-point p d curve r b b_is) (multiple-point p d curve k a a_is) (multiple-point p d curve k (opposite p a) o_is)
    ∙ ap (λ q. sum p d (multiple_of p d r b) q)
    (sym (multiple-sum p d curve k a (opposite p a) a_is o_is)
    ∙ ap (λ q. multiple_of p d k q) (sum-commutative p d a (opposite p a) ∙ sum-opposite p d curve a a_is) ∙ multiple-neutral p d curve k)
    ∙ neutral-sum p d curve (multiple_of p d r b) (multiple-point p d curve r b b_is)

-- ---- opposites

-- the opposite of a point is the one whose sum with it is neutral
opposite-unique : (p d : ℕ) → IsComplete p d → (a b : Affine) → IsPoint p d a → IsPoint p d b → sum p d a b ≡ neutral → a ≡ opposite p b
opposite-unique p d curve a b a_is b_is e =
    let o_is : IsPoint p d (opposite p b) = opposite-point p d curve b b_is in
    sym (neutral-sum p d curve a a_is)
    ∙ ap (λ q. sum p d a q) (sym (sum-commutative p d b (opposite p b) ∙ sum-opposite p d curve b b_is))
    ∙ sym (sum-associative p d curve a b (opposite p b) a_is b_is o_is)
    ∙ ap (λ q. sum p d q (opposite p b)) e
    ∙ sum-neutral p d curve (opposite p b) o_is

pub multiple-opposite : (p d : ℕ) → IsComplete p d → (n : ℕ) (a : Affine) → IsPoint p d a
    → multiple_of p d n (opposite p a) ≡ opposite p (multiple_of p d n a)
multiple-opposite p d curve n a a_is =
    let o_is : IsPoint p d (opposite p a) = opposite-point p d curve a a_is in
    opposite-unique p d curve (multiple_of p d n (opposite p a)) (multiple_of p d n a)
    (multiple-point p d curve n (opposite p a) o_is) (multiple-point p d curve n a a_is)
    (sym (multiple-sum p d curve n (opposite p a) a o_is a_is) ∙ ap (λ q. multiple_of p d n q) (sum-opposite p d curve a a_is)
    ∙ multiple-neutral p d curve n)

-- ---- which multiples are neutral

neutral-remainder : (p d : ℕ) → IsComplete p d → (a : Affine) → IsPoint p d a → (m n : ℕ) → multiple_of p d m a ≡ neutral
    → multiple_of p d n a ≡ neutral → multiple_of p d (m % n) a ≡ neutral
neutral-remainder p d curve a a_is m n e f = multiple-remainder p d curve n m a a_is f ∙ e

pub neutral-multiples : (p d : ℕ) → IsComplete p d → (l n : ℕ) (a : Affine) → IsPoint p d a → multiple_of p d l a ≡ neutral
    → IsPrime l → a ≢ neutral → multiple_of p d n a ≡ neutral → n % l ≡ 0
unfolding IsPrime
neutral-multiples p d curve l n a a_is whole prime apart e =
    let r : (g : ℕ) × (multiple_of p d g a ≡ neutral) × (l % g ≡ 0) × (n % g ≡ 0) =
    gcd-within (λ k. multiple_of p d k a ≡ neutral) (λ x y positive f h. neutral-remainder p d curve a a_is x y f h) (suc n) l n
    (omega arith) whole e in
    elim (prime.1 r.0 r.2) [
      | inl one ↦ absurd (apart (sym (multiple-one p d curve a a_is) ∙ ap (λ k. multiple_of p d k a) (sym one) ∙ r.1))
      | inr same ↦ ap (λ k. n % k) (sym same) ∙ r.3
    ]

-- and which are
pub divided-neutral : (p d : ℕ) → IsComplete p d → (l n : ℕ) (a : Affine) → IsPoint p d a → multiple_of p d l a ≡ neutral
    → n % l ≡ 0 → multiple_of p d n a ≡ neutral
unfolding multiple_of
divided-neutral p d curve l n a a_is whole e =
    sym (multiple-remainder p d curve l n a a_is whole) ∙ ap (λ k. multiple_of p d k a) e

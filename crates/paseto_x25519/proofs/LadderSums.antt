-- A step of the Montgomery ladder doubles a point and adds two whose difference is known, as their u = X / Z are kept.
use Rattle.std.proofs.Common.{◌≡◌, ◌≢◌, ◌⊎◌, ℕ, ◌+◌, ◌-◌, ◌*◌, ◌%◌, ◌<◌, List, [], ◌∷◌, true, refl, sym, ap, ◌∙◌, arith, inl, inr, lit<, mod-eq_of_lt, mod-lt}
use Rattle.paseto_primes.specs.Element.{HoldElements, element, minus as minus_modulo, plus as plus_modulo, times as times_modulo}
use Rattle.paseto_primes.specs.Identity.{Equation, is_null, left_sides, right_sides}
use Rattle.paseto_primes.specs.Polynomial.{Expression, constant, difference, polynomial, product, sum, value}
use Rattle.paseto_primes.specs.Program.{listed}
use Rattle.paseto_primes.specs.Reduction.{reduced}
use Rattle.paseto_primes.proofs.ElementLaws.{AreListedBelow, element-value, listed-below}
use Rattle.paseto_primes.proofs.ProgramLaws.{programming}
use Rattle.paseto_primes.proofs.ReductionLaws.{elements-by_rules}
use Rattle.paseto_primes.proofs.DivisorLaws.{euclid}
use Rattle.paseto_primes.proofs.FieldOfEdwards25519.{is-prime}
use Rattle.paseto_primes.proofs.DivisorLaws.{cancel as cancel-factor}
use Rattle.paseto_primes.proofs.Identities.{equation, no_rules, obey-none, v0, v1, v2, v3, v4, v5, v6, v7}
use Rattle.paseto_edwards_laws.specs.Edwards25519.{d, prime}
use Rattle.paseto_edwards25519.specs.Field.{minus, plus, times}
use Rattle.paseto_edwards25519.proofs.RootLaws.{times-low}
use Rattle.paseto_x25519.specs.Ladder.{a24}

-- ---- identities of elements of the field

identity : (n : ℕ) (xs : List ℕ) → AreListedBelow prime xs → (es : List Equation) → HoldElements n prime (listed xs) es → (a b : Expression)
    → is_null n prime (reduced no_rules n prime (polynomial n prime (difference (sum a (right_sides es)) (sum b (left_sides es))))) ≡ true
    → element n prime (listed xs) a ≡ element n prime (listed xs) b
identity n xs below es =
    elements-by_rules no_rules n prime (listed xs) (lit< tt) (listed-below prime xs (lit< tt) below) (obey-none n prime (listed xs)) es

unfoldable identifying : ℕ
unfolding programming no_rules plus minus times plus_modulo minus_modulo times_modulo
identifying = 0

-- an equation of values is one of elements
elements-of : (n : ℕ) (xs : List ℕ) → AreListedBelow prime xs → (a b : Expression)
    → value n prime (listed xs) a % prime ≡ value n prime (listed xs) b % prime → element n prime (listed xs) a ≡ element n prime (listed xs) b
elements-of n xs below a b e =
    let numbers = listed xs in
    let all = listed-below prime xs (lit< tt) below in
    element-value n prime numbers (lit< tt) all a ∙ e ∙ sym (element-value n prime numbers (lit< tt) all b)

abbrev minus_one : Expression
minus_one = constant (prime - 1)

abbrev one : Expression
one = constant 1

abbrev curve_d : Expression
curve_d = constant d

pub plus-low : (a b : ℕ) → plus a b < prime
unfolding plus
plus-low a b = mod-lt (a + b) (lit< tt)

pub zero-product : (a b : ℕ) → a < prime → b < prime → times a b ≡ 0 → (a ≡ 0) ⊎ (b ≡ 0)
unfolding times
zero-product a b a_low b_low e = elim (euclid prime a b is-prime e) [
  | inl none ↦ inl (sym (mod-eq_of_lt a_low) ∙ none)
  | inr none ↦ inr (sym (mod-eq_of_lt b_low) ∙ none)
]

pub nonzero-times : (a b : ℕ) → a < prime → b < prime → a ≢ 0 → b ≢ 0 → times a b ≢ 0
nonzero-times a b a_low b_low ha hb e = elim (zero-product a b a_low b_low e) [ inl none ↦ ha none | inr none ↦ hb none ]

pub cancel : (c a b : ℕ) → c < prime → a < prime → b < prime → c ≢ 0 → times c a ≡ times c b → a ≡ b
unfolding times
cancel c a b c_low a_low b_low some e =
    let unit : c % prime ≢ 0 = λ z. some (sym (mod-eq_of_lt c_low) ∙ z) in
    sym (mod-eq_of_lt a_low) ∙ cancel-factor prime c a b is-prime unit e ∙ mod-eq_of_lt b_low

-- where a sum and a difference are 0
pub both-none : (x z : ℕ) → x < prime → z < prime → plus x z ≡ 0 → minus x z ≡ 0 → (x ≡ 0) × (z ≡ 0)
unfolding plus minus
both-none x z hx hz e f = (omega (arith, e, f), omega (arith, e, f))

-- ---- the points of a step

-- (x, y) is on the curve
abbrev pub IsOnCurve : ℕ → ℕ → Type 0
IsOnCurve x y = times y y ≡ plus (plus 1 (times x x)) (times d (times (times x x) (times y y)))

pub on-curve : (x y : ℕ) → x < prime → y < prime → (y * y) % prime ≡ (1 + x * x + d * (x * x * (y * y))) % prime → IsOnCurve x y
unfolding identifying
on-curve x y hx hy e =
    elements-of 2 (x ∷ y ∷ []) (hx, (hy, tt)) (product v1 v1)
    (sum (sum one (product v0 v0)) (product curve_d (product (product v0 v0) (product v1 v1)))) e

-- s is 1 - e, and s w is what the sum's y is of
pub record IsSecond (xa ya xb yb s w : ℕ) : Type 0 where
  pub s_low : s < prime
  pub w_low : w < prime
  pub s_is : plus s (times d (times (times xa xb) (times ya yb))) ≡ 1
  pub w_is : times s w ≡ plus (times ya yb) (times xa xb)

pub second-of : (xa ya xb yb s w : ℕ) → xa < prime → ya < prime → xb < prime → yb < prime → s < prime → w < prime
    → (s + d * (xa * xb * (ya * yb))) % prime ≡ 1 % prime → (s * w) % prime ≡ (ya * yb + xa * xb) % prime → IsSecond xa ya xb yb s w
unfolding identifying
second-of xa ya xb yb s w ha hb hc he hs hw e f =
    let xs = xa ∷ ya ∷ xb ∷ yb ∷ s ∷ w ∷ [] in
    let below : AreListedBelow prime (xa ∷ ya ∷ xb ∷ yb ∷ s ∷ w ∷ []) = (ha, (hb, (hc, (he, (hs, (hw, tt)))))) in
    record {
      s_low = hs;
      w_low = hw;
      s_is = elements-of 6 xs below (sum v4 (product curve_d (product (product v0 v2) (product v1 v3)))) one e;
      w_is = elements-of 6 xs below (product v4 v5) (sum (product v1 v3) (product v0 v2)) f;
    }

-- ---- doubling

abbrev doubled_x : Expression
doubled_x = product (product v0 v0) (product (product v0 v1) (product v0 v1))

abbrev doubled_z : Expression
doubled_z =
    let aa = product v0 v0 in
    let e = difference aa (product (product v0 v1) (product v0 v1)) in
    product e (sum aa (product (constant a24) e))

fourth : Expression
fourth = product (constant 121666) (product (product v0 v0) (product v0 v0))

denominator : Expression
denominator = sum one (product curve_d (product v1 v1))

pub double-is : (a y x w s : ℕ) → a < prime → y < prime → x < prime → IsOnCurve x y → IsSecond x y x y s w
    → let aa = times a a in let b = times a y in let bb = times b b in let e = minus aa bb in
    let x2 = times aa bb in let z2 = times e (plus aa (times a24 e)) in
    times (plus x2 z2) w ≡ minus x2 z2
unfolding identifying fourth denominator
double-is a y x w s ha hy hx on second =
    identity 5 (a ∷ y ∷ x ∷ w ∷ s ∷ []) (ha, (hy, (hx, (second.w_low, (second.s_low, tt)))))
    (equation (product minus_one (product v3 (product fourth denominator)))
    (sum v4 (product curve_d (product (product v2 v2) (product v1 v1)))) one
    ∷ equation (product minus_one (product fourth (sum (product curve_d (product (product v1 v1) v3)) one)))
    (product v1 v1) (sum (sum one (product v2 v2)) (product curve_d (product (product v2 v2) (product v1 v1))))
    ∷ equation (product fourth denominator) (product v4 v3) (sum (product v1 v1) (product v2 v2))
    ∷ []) (second.s_is, (on, (second.w_is, tt)))
    (product (sum doubled_x doubled_z) v3) (difference doubled_x doubled_z) refl

pub none-times : (w : ℕ) → times 0 w ≡ 0
unfolding times
none-times w = omega arith

-- where y is 0
half-z : (aa : ℕ) → aa < prime → times (minus aa 0) (plus aa (times a24 (minus aa 0))) ≡ times 121666 (times aa aa)
unfolding identifying
half-z aa h =
    let e = difference v0 (constant 0) in
    identity 1 (aa ∷ []) (h, tt) [] tt (product e (sum v0 (product (constant a24) e))) (product (constant 121666) (product v0 v0)) refl

pub double-some : (a y : ℕ) → a < prime → y < prime → a ≢ 0 → (w : ℕ)
    → let aa = times a a in let b = times a y in let bb = times b b in let e = minus aa bb in
    let x2 = times aa bb in let z2 = times e (plus aa (times a24 e)) in
    times (plus x2 z2) w ≡ minus x2 z2 → plus x2 z2 ≢ 0
double-some a y ha hy some w is none =
    let aa = times a a in
    let b = times a y in
    let bb = times b b in
    let e = minus aa bb in
    let x2 = times aa bb in
    let z2 = times e (plus aa (times a24 e)) in
    let aa_some : aa ≢ 0 = nonzero-times a a ha ha some some in
    let gone : minus x2 z2 ≡ 0 = sym is ∙ ap (λ (n : ℕ). times n w) none ∙ none-times w in
    let both = both-none x2 z2 (times-low aa bb) (times-low _ _) none gone in
    elim (zero-product aa bb (times-low a a) (times-low b b) both.0) [
      | inl f ↦ aa_some f
      | inr f ↦
          let at : z2 ≡ times 121666 (times aa aa) =
          ap (λ (n : ℕ). times (minus aa n) (plus aa (times a24 (minus aa n)))) f ∙ half-z aa (times-low a a) in
          nonzero-times 121666 (times aa aa) (lit< tt) (times-low aa aa) (λ z. absurd (omega (arith, z)))
          (nonzero-times aa aa (times-low a a) (times-low a a) aa_some aa_some) (sym at ∙ both.1)
    ]

-- ---- adding

-- what both sides of a sum of known difference are
abbrev sides_t : Expression
sides_t = product v0 v2

abbrev sides_s : Expression
sides_s = product v1 v3

abbrev sides_e : Expression
sides_e = product curve_d (product sides_t sides_s)

pub first-side : (xa ya xb yb s w : ℕ) → xa < prime → ya < prime → xb < prime → yb < prime → IsSecond xa ya xb yb s w
    → let t = times xa xb in let q = times ya yb in
    times s (minus 1 w) ≡ minus (minus 1 (times d (times t q))) (plus q t)
unfolding identifying
first-side xa ya xb yb s w ha hb hc he h =
    identity 6 (xa ∷ ya ∷ xb ∷ yb ∷ s ∷ w ∷ []) (ha, (hb, (hc, (he, (h.s_low, (h.w_low, tt))))))
    (equation one (sum v4 sides_e) one ∷ equation minus_one (product v4 v5) (sum sides_s sides_t) ∷ []) (h.s_is, (h.w_is, tt))
    (product v4 (difference one v5)) (difference (difference one sides_e) (sum sides_s sides_t)) refl

pub second-side : (xa ya xb yb s w : ℕ) → xa < prime → ya < prime → xb < prime → yb < prime → IsSecond xa ya xb yb s w
    → let t = times xa xb in let q = times ya yb in
    times s (plus 1 w) ≡ plus (minus 1 (times d (times t q))) (plus q t)
unfolding identifying
second-side xa ya xb yb s w ha hb hc he h =
    identity 6 (xa ∷ ya ∷ xb ∷ yb ∷ s ∷ w ∷ []) (ha, (hb, (hc, (he, (h.s_low, (h.w_low, tt))))))
    (equation one (sum v4 sides_e) one ∷ equation one (product v4 v5) (sum sides_s sides_t) ∷ []) (h.s_is, (h.w_is, tt))
    (product v4 (sum one v5)) (sum (difference one sides_e) (sum sides_s sides_t)) refl

-- the same of b - a, where n is -xa
pub third-side : (xa ya xb yb n s w : ℕ) → xa < prime → ya < prime → xb < prime → yb < prime → n < prime → plus n xa ≡ 0 → IsSecond xb yb n ya s w
    → let t = times xa xb in let q = times ya yb in
    times s (minus 1 w) ≡ plus (minus (plus 1 (times d (times t q))) q) t
unfolding identifying
third-side xa ya xb yb n s w ha hb hc he hn o h =
    identity 7 (xa ∷ ya ∷ xb ∷ yb ∷ s ∷ w ∷ n ∷ []) (ha, (hb, (hc, (he, (h.s_low, (h.w_low, (hn, tt)))))))
    (equation one (sum v4 (product curve_d (product (product v2 v6) (product v3 v1)))) one
    ∷ equation minus_one (product v4 v5) (sum (product v3 v1) (product v2 v6))
    ∷ equation (product minus_one (sum (product curve_d (product sides_s v2)) v2)) (sum v6 v0) (constant 0)
    ∷ []) (h.s_is, (h.w_is, (o, tt)))
    (product v4 (difference one v5)) (sum (difference (sum one sides_e) sides_s) sides_t) refl

pub fourth-side : (xa ya xb yb n s w : ℕ) → xa < prime → ya < prime → xb < prime → yb < prime → n < prime → plus n xa ≡ 0 → IsSecond xb yb n ya s w
    → let t = times xa xb in let q = times ya yb in
    times s (plus 1 w) ≡ minus (plus (plus 1 (times d (times t q))) q) t
unfolding identifying
fourth-side xa ya xb yb n s w ha hb hc he hn o h =
    identity 7 (xa ∷ ya ∷ xb ∷ yb ∷ s ∷ w ∷ n ∷ []) (ha, (hb, (hc, (he, (h.s_low, (h.w_low, (hn, tt)))))))
    (equation one (sum v4 (product curve_d (product (product v2 v6) (product v3 v1)))) one
    ∷ equation one (product v4 v5) (sum (product v3 v1) (product v2 v6))
    ∷ equation (difference v2 (product curve_d (product sides_s v2))) (sum v6 v0) (constant 0)
    ∷ []) (h.s_is, (h.w_is, (o, tt)))
    (product v4 (sum one v5)) (difference (sum (sum one sides_e) sides_s) sides_t) refl

-- the sides of the curve
pub core : (xa ya xb yb : ℕ) → xa < prime → ya < prime → xb < prime → yb < prime → IsOnCurve xa ya → IsOnCurve xb yb
    → let t = times xa xb in let q = times ya yb in let e = times d (times t q) in
    times (times (times (plus ya yb) (plus ya yb)) (minus (minus 1 e) (plus q t))) (plus (minus (plus 1 e) q) t)
    ≡ times (times (times (minus yb ya) (minus yb ya)) (plus (minus 1 e) (plus q t))) (minus (plus (plus 1 e) q) t)
unfolding identifying
core xa ya xb yb ha hb hc he on_a on_b =
    let four = product (constant 4) sides_s in
    identity 4 (xa ∷ ya ∷ xb ∷ yb ∷ []) (ha, (hb, (hc, (he, tt))))
    (equation (product four (difference (product v3 v3) one))
    (product v1 v1) (sum (sum one (product v0 v0)) (product curve_d (product (product v0 v0) (product v1 v1))))
    ∷ equation (product four (product (product v0 v0) (sum one (product curve_d (product v1 v1)))))
    (product v3 v3) (sum (sum one (product v2 v2)) (product curve_d (product (product v2 v2) (product v3 v3))))
    ∷ []) (on_a, (on_b, tt))
    (product (product (product (sum v1 v3) (sum v1 v3)) (difference (difference one sides_e) (sum sides_s sides_t)))
    (sum (difference (sum one sides_e) sides_s) sides_t))
    (product (product (product (difference v3 v1) (difference v3 v1)) (sum (difference one sides_e) (sum sides_s sides_t)))
    (difference (sum (sum one sides_e) sides_s) sides_t)) refl

pub regrouped : (m r s p a1 a2 b1 b2 : ℕ) → AreListedBelow prime (m ∷ r ∷ s ∷ p ∷ a1 ∷ a2 ∷ b1 ∷ b2 ∷ [])
    → times (times m (times s a1)) (times p b1) ≡ times (times r (times s a2)) (times p b2)
    → times (times s p) (times m (times a1 b1)) ≡ times (times s p) (times r (times a2 b2))
unfolding identifying
regrouped m r s p a1 a2 b1 b2 below e =
    identity 8 (m ∷ r ∷ s ∷ p ∷ a1 ∷ a2 ∷ b1 ∷ b2 ∷ []) below
    (equation one (product (product v0 (product v2 v4)) (product v3 v6)) (product (product v1 (product v2 v5)) (product v3 v7)) ∷ []) (e, tt)
    (product (product v2 v3) (product v0 (product v4 v6))) (product (product v2 v3) (product v1 (product v5 v7))) refl

pub without-known : (m r a1 a2 b1 b2 x1 : ℕ) → AreListedBelow prime (m ∷ r ∷ a1 ∷ a2 ∷ b1 ∷ b2 ∷ x1 ∷ [])
    → times m (times a1 b1) ≡ times r (times a2 b2) → times x1 b1 ≡ b2
    → times b1 (times m a1) ≡ times b1 (times (times r x1) a2)
unfolding identifying
without-known m r a1 a2 b1 b2 x1 below e f =
    identity 7 (m ∷ r ∷ a1 ∷ a2 ∷ b1 ∷ b2 ∷ x1 ∷ []) below
    (equation one (product v0 (product v2 v4)) (product v1 (product v3 v5))
    ∷ equation (product minus_one (product v1 v3)) (product v6 v4) v5
    ∷ []) (e, (f, tt))
    (product v4 (product v0 v2)) (product v4 (product (product v1 v6) v3)) refl

-- the ladder's sum
pub added-is : (a c ya yb x1 w : ℕ) → AreListedBelow prime (a ∷ c ∷ ya ∷ yb ∷ x1 ∷ w ∷ [])
    → times (times (plus ya yb) (plus ya yb)) (minus 1 w) ≡ times (times (times (minus yb ya) (minus yb ya)) x1) (plus 1 w)
    → let da = times (times c yb) a in let cb = times c (times a ya) in
    let x3 = times (plus da cb) (plus da cb) in let z3 = times x1 (times (minus da cb) (minus da cb)) in
    times (plus x3 z3) w ≡ minus x3 z3
unfolding identifying
added-is a c ya yb x1 w below e =
    let da = product (product v1 v3) v0 in
    let cb = product v1 (product v0 v2) in
    let x3 = product (sum da cb) (sum da cb) in
    let z3 = product v4 (product (difference da cb) (difference da cb)) in
    let ac = product v0 v1 in
    identity 6 (a ∷ c ∷ ya ∷ yb ∷ x1 ∷ w ∷ []) below
    (equation (product minus_one (product ac ac)) (product (product (sum v2 v3) (sum v2 v3)) (difference one v5))
    (product (product (product (difference v3 v2) (difference v3 v2)) v4) (sum one v5)) ∷ []) (e, tt)
    (product (sum x3 z3) v5) (difference x3 z3) refl

-- what y of the known difference is where both y are 0
pub halves : (xa xb n s w : ℕ) → AreListedBelow prime (xa ∷ xb ∷ n ∷ s ∷ w ∷ []) → IsOnCurve xa 0 → IsOnCurve xb 0 → plus n xa ≡ 0
    → IsSecond xb 0 n 0 s w → times (minus 1 w) (plus 1 w) ≡ 0
unfolding identifying
halves xa xb n s w below on_a on_b o h =
    let nothing = product (constant 0) (constant 0) in
    let product_ = product v1 v2 in
    identity 5 (xa ∷ xb ∷ n ∷ s ∷ w ∷ []) below
    (equation minus_one nothing (sum (sum one (product v1 v1)) (product curve_d (product (product v1 v1) nothing)))
    ∷ equation (product v1 v1) nothing (sum (sum one (product v0 v0)) (product curve_d (product (product v0 v0) nothing)))
    ∷ equation (product minus_one (product (product v1 v1) (difference v2 v0))) (sum v2 v0) (constant 0)
    ∷ equation (product minus_one (sum product_ v4)) (product v3 v4) (sum nothing product_)
    ∷ equation (sum (product v4 product_) (product v4 v4)) (sum v3 (product curve_d (product product_ nothing))) one
    ∷ []) (on_b, (on_a, (o, (h.w_is, (h.s_is, tt)))))
    (product (difference one v4) (sum one v4)) (constant 0) refl

-- ---- quotients

pub same-squares : (p q : ℕ) → p < prime → q < prime → times (minus p q) (minus p q) ≡ times (minus q p) (minus q p)
unfolding identifying
same-squares p q hp hq =
    identity 2 (p ∷ q ∷ []) (hp, (hq, tt)) [] tt (product (difference v0 v1) (difference v0 v1)) (product (difference v1 v0) (difference v1 v0)) refl

pub times-turned : (p q : ℕ) → times p q ≡ times q p
unfolding times
times-turned p q = let e : p * q ≡ q * p = omega arith in ap (λ (n : ℕ). n % prime) e

pub plus-turned : (p q : ℕ) → plus p q ≡ plus q p
unfolding plus
plus-turned p q = let e : p + q ≡ q + p = omega arith in ap (λ (n : ℕ). n % prime) e

-- u of a point, from its quotient
pub known-is : (y j : ℕ) → y < prime → j < prime → times (minus 1 y) j ≡ 1 → times (times (plus 1 y) j) (minus 1 y) ≡ plus 1 y
unfolding identifying
known-is y j hy hj e =
    identity 2 (y ∷ j ∷ []) (hy, (hj, tt)) (equation (sum one v0) (product (difference one v0) v1) one ∷ []) (e, tt)
    (product (product (sum one v0) v1) (difference one v0)) (sum one v0) refl

pub start-is : (x y : ℕ) → x < prime → y < prime → times x (minus 1 y) ≡ plus 1 y → times (plus x 1) y ≡ minus x 1
unfolding identifying
start-is x y hx hy e =
    identity 2 (x ∷ y ∷ []) (hx, (hy, tt)) (equation minus_one (product v0 (difference one v1)) (sum one v1) ∷ []) (e, tt)
    (product (sum v0 one) v1) (difference v0 one) refl

pub quotients : (x z i y j : ℕ) → AreListedBelow prime (x ∷ z ∷ i ∷ y ∷ j ∷ []) → times z i ≡ 1 → times (minus 1 y) j ≡ 1
    → times (plus x z) y ≡ minus x z → times x i ≡ times (plus 1 y) j
unfolding identifying
quotients x z i y j below e f g =
    identity 5 (x ∷ z ∷ i ∷ y ∷ j ∷ []) below
    (equation (product (sum one v3) v4) (product v1 v2) one
    ∷ equation (product minus_one (product v0 v2)) (product (difference one v3) v4) one
    ∷ equation (product minus_one (product v2 v4)) (product (sum v0 v1) v3) (difference v0 v1)
    ∷ []) (e, (f, (g, tt))) (product v0 v2) (product (sum one v3) v4) refl

-- where z is 0, x is
pub point-z : (x y : ℕ) → x < prime → y < prime → times (plus x 0) y ≡ minus x 0 → times x (minus 1 y) ≡ 0
unfolding identifying
point-z x y hx hy e =
    identity 2 (x ∷ y ∷ []) (hx, (hy, tt)) (equation minus_one (product (sum v0 (constant 0)) v1) (difference v0 (constant 0)) ∷ []) (e, tt)
    (product v0 (difference one v1)) (constant 0) refl

-- ---- the two points with x = 0

-- the double of a quotient 0
pub double-none : (x z : ℕ) → x < prime → z < prime → times x z ≡ 0
    → minus (times (plus x z) (plus x z)) (times (minus x z) (minus x z)) ≡ 0
unfolding identifying
double-none x z hx hz e =
    identity 2 (x ∷ z ∷ []) (hx, (hz, tt)) (equation (constant 4) (product v0 v1) (constant 0) ∷ []) (e, tt)
    (difference (product (sum v0 v1) (sum v0 v1)) (product (difference v0 v1) (difference v0 v1))) (constant 0) refl

-- where y ^ 2 is 1, x is 0
pub square-x : (x y : ℕ) → x < prime → y < prime → IsOnCurve x y → times (minus 1 y) (plus 1 y) ≡ 0 → times (plus 1 d) (times x x) ≡ 0
unfolding identifying
square-x x y hx hy on e =
    let xx = product v0 v0 in
    identity 2 (x ∷ y ∷ []) (hx, (hy, tt))
    (equation minus_one (product v1 v1) (sum (sum one xx) (product curve_d (product xx (product v1 v1))))
    ∷ equation (difference (product curve_d xx) one) (product (difference one v1) (sum one v1)) (constant 0)
    ∷ []) (on, (e, tt)) (product (sum one curve_d) xx) (constant 0) refl

-- the square of the y of a sum
pub sum-square : (ya yb s w : ℕ) → ya < prime → yb < prime → IsSecond 0 ya 0 yb s w → times (minus 1 ya) (plus 1 ya) ≡ 0 → times (minus 1 yb) (plus 1 yb) ≡ 0
    → times (minus 1 w) (plus 1 w) ≡ 0
unfolding identifying
sum-square ya yb s w ha hb h e f =
    let nothing = product (constant 0) (constant 0) in
    let both = product v0 v1 in
    identity 4 (ya ∷ yb ∷ s ∷ w ∷ []) (ha, (hb, (h.s_low, (h.w_low, tt))))
    (equation (sum (product v3 both) (product v3 v3)) (sum v2 (product curve_d (product nothing both))) one
    ∷ equation (product minus_one (sum both v3)) (product v2 v3) (sum both nothing)
    ∷ equation (product v1 v1) (product (difference one v0) (sum one v0)) (constant 0)
    ∷ equation one (product (difference one v1) (sum one v1)) (constant 0)
    ∷ []) (h.s_is, (h.w_is, (e, (f, tt))))
    (product (difference one v3) (sum one v3)) (constant 0) refl

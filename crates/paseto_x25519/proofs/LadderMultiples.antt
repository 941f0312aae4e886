-- The ladder of X25519 computes u of a multiple of a point.
use Rattle.std.proofs.Common.{◌≡◌, ◌≢◌, ℕ, zero, suc, ◌+◌, ◌-◌, ◌*◌, ◌/◌, ◌%◌, ◌^◌, ◌<◌, ◌≤◌, refl, sym, ap, ap₂, subst, ◌∙◌, arith, inl, inr, lit<, mod-eq_of_lt, mod-lt, pow-suc}
use Rattle.std.proofs.lemmas.Bool.{cases_eq}
use Rattle.paseto_primes.proofs.EulerLaws.{inverse as inverse-of}
use Rattle.paseto_primes.proofs.FieldOfEdwards25519.{is-prime}
use Rattle.paseto_edwards_laws.specs.Edwards25519.{d, prime}
use Rattle.paseto_edwards_laws.specs.Group.{Affine, cross, neutral, opposite as opposite_of}
use Rattle.paseto_edwards_laws.specs.Multiples.{multiple_of}
use Rattle.paseto_edwards_laws.proofs.ClosureLaws.{IsSum}
use Rattle.paseto_edwards_laws.proofs.CurveLaws.{curve}
use Rattle.paseto_edwards_laws.proofs.GroupLaws.{minus-unit, neutral-point, opposite-point, sum-associative, sum-commutative, sum-is, sum-neutral, sum-opposite, sum-point}
use Rattle.paseto_edwards_laws.proofs.MultipleLaws.{multiple-plus, multiple-point, neutral-sum}
use Rattle.paseto_edwards25519.specs.Curve.{HasSmallOrder, IsPoint, multiple, opposite, sum}
use Rattle.paseto_edwards25519.specs.Extended.{inverse}
use Rattle.paseto_edwards25519.specs.Field.{minus, plus, power, times}
use Rattle.paseto_edwards25519.proofs.SmallOrderLaws.{zero-is_small}
use Rattle.paseto_x25519.specs.Ladder.{Numbers, a24, ladder, quotient, start, stepped, swapped, turned, turns}
use Rattle.paseto_x25519.specs.Laws.{u_of}
use Rattle.paseto_edwards25519.proofs.DecodingLaws.{minus-low}
use Rattle.paseto_edwards25519.proofs.RootLaws.{times-low}
use Rattle.paseto_x25519.proofs.LadderSums.{IsOnCurve, IsSecond, added-is, both-none, cancel, core, double-is, double-none, double-some, first-side, fourth-side, halves, known-is, none-times, nonzero-times, on-curve, plus-low, plus-turned, point-z, quotients, regrouped, same-squares, second-of, second-side, square-x, start-is, sum-square, third-side, times-turned, without-known, zero-product}

-- u of the point is x / z
pub record Stands (x z : ℕ) (q : Affine) : Type 0 where
  pub x_low : x < prime
  pub z_low : z < prime
  pub some : plus x z ≢ 0
  pub is : times (plus x z) q.y ≡ minus x z

curve-of : (a : Affine) → IsPoint a → IsOnCurve a.x a.y
curve-of a h = on-curve a.x a.y h.x_low h.y_low h.on

-- ---- the equations of a sum

second-is : (a b : Affine) → IsPoint a → IsPoint b → (s : ℕ) × IsSecond a.x a.y b.x b.y s (sum a b).y × (s ≢ 0)
unfolding IsSum cross
second-is a b ha hb =
    let e : ℕ = d * (a.x * b.x * (a.y * b.y)) in
    let big : ℕ = 1 + (prime - e % prime) in
    let s : ℕ = big % prime in
    let low : s < prime = mod-lt big (lit< tt) in
    let parts = sum-is prime d curve a b ha hb in
    let first : (s + e) % prime ≡ 1 % prime = sum-mod big e ∙ parts.0 in
    let second : (s * (sum a b).y) % prime ≡ (a.y * b.y + a.x * b.x) % prime = product-mod big (sum a b).y ∙ parts.2 in
    let h = sum-point prime d curve a b ha hb in (
      s,
      second-of a.x a.y b.x b.y s (sum a b).y ha.x_low ha.y_low hb.x_low hb.y_low low h.y_low first second,
      minus-unit prime d curve a b ha hb,
    )
  where
    sum-mod : (n e : ℕ) → (n % prime + e) % prime ≡ (n + e) % prime
    sum-mod n e = omega arith

    product-mod : (n e : ℕ) → (n % prime * e) % prime ≡ (n * e) % prime
    product-mod n e = Rattle.std.proofs.lemmas.Nat.mul-mod_first n e prime

-- ---- doubling

-- what a step makes of the first of two points
doubled_x : ℕ → ℕ → ℕ
doubled_x x z = times (times (plus x z) (plus x z)) (times (minus x z) (minus x z))

doubled_z : ℕ → ℕ → ℕ
doubled_z x z =
    let aa = times (plus x z) (plus x z) in
    let e = minus aa (times (minus x z) (minus x z)) in
    times e (plus aa (times a24 e))

double-stands : (x z : ℕ) (q : Affine) → IsPoint q → Stands x z q → Stands (doubled_x x z) (doubled_z x z) (sum q q)
unfolding doubled_x doubled_z
double-stands x z q hq h =
    let a = plus x z in
    let a_low = plus-low x z in
    let found = second-is q q hq hq in
    let by : (b : ℕ) → times a q.y ≡ b → (let aa = times a a in let bb = times b b in let e = minus aa bb in
    let x2 = times aa bb in let z2 = times e (plus aa (times a24 e)) in (times (plus x2 z2) (sum q q).y ≡ minus x2 z2) × (plus x2 z2 ≢ 0)) = λ b is.
    subst (λ (c : ℕ). let aa = times a a in let bb = times c c in let e = minus aa bb in
    let x2 = times aa bb in let z2 = times e (plus aa (times a24 e)) in (times (plus x2 z2) (sum q q).y ≡ minus x2 z2) × (plus x2 z2 ≢ 0)) is
    (let equal = double-is a q.y q.x (sum q q).y found.0 a_low hq.y_low hq.x_low (curve-of q hq) found.1 in
    (equal, double-some a q.y a_low hq.y_low h.some (sum q q).y equal)) in
    let both = by (minus x z) h.is in
    record { x_low = times-low _ _; z_low = times-low _ _; some = both.1; is = both.0 }

-- ---- adding

added_x : ℕ → ℕ → ℕ → ℕ → ℕ
added_x xa za xb zb =
    let da = times (minus xb zb) (plus xa za) in
    let cb = times (plus xb zb) (minus xa za) in
    times (plus da cb) (plus da cb)

added_z : ℕ → ℕ → ℕ → ℕ → ℕ → ℕ
added_z x1 xa za xb zb =
    let da = times (minus xb zb) (plus xa za) in
    let cb = times (plus xb zb) (minus xa za) in
    times x1 (times (minus da cb) (minus da cb))

opposite-x : (a : Affine) → IsPoint a → plus (opposite a).x a.x ≡ 0
unfolding opposite_of plus
opposite-x a h = omega (arith, h.x_low)

opposite-y : (a : Affine) → (opposite a).y ≡ a.y
unfolding opposite_of
opposite-y a = refl

module _ (a b p : Affine) (x1 : ℕ) (ha : IsPoint a) (hb : IsPoint b) (hp : IsPoint p) (difference : sum b (opposite a) ≡ p)
    (x1_low : x1 < prime) (x1_some : x1 ≢ 0) (not_neutral : minus 1 p.y ≢ 0) (known : times x1 (minus 1 p.y) ≡ plus 1 p.y) where
  ho : IsPoint (opposite a)
  ho = opposite-point prime d curve a ha

  other : (s : ℕ) × IsSecond b.x b.y (opposite a).x a.y s p.y × (s ≢ 0)
  other =
      let found = second-is b (opposite a) hb ho in
      let first = subst (λ (n : ℕ). IsSecond b.x b.y (opposite a).x n found.0 (sum b (opposite a)).y) (opposite-y a) found.1 in
      (found.0, subst (λ (q : Affine). IsSecond b.x b.y (opposite a).x a.y found.0 q.y) difference first, found.2)

  -- u of the sum and u of the difference
  relation : times (times (plus a.y b.y) (plus a.y b.y)) (minus 1 (sum a b).y)
      ≡ times (times (times (minus b.y a.y) (minus b.y a.y)) x1) (plus 1 (sum a b).y)
  relation =
      let w : ℕ = (sum a b).y in
      let found = second-is a b ha hb in
      let s : ℕ = found.0 in
      let r : ℕ = other.0 in
      let n : ℕ = (opposite a).x in
      let o = opposite-x a ha in
      let m = times (plus a.y b.y) (plus a.y b.y) in
      let k = times (minus b.y a.y) (minus b.y a.y) in
      let one = first-side a.x a.y b.x b.y s w ha.x_low ha.y_low hb.x_low hb.y_low found.1 in
      let two = second-side a.x a.y b.x b.y s w ha.x_low ha.y_low hb.x_low hb.y_low found.1 in
      let three = third-side a.x a.y b.x b.y n r p.y ha.x_low ha.y_low hb.x_low hb.y_low ho.x_low o other.1 in
      let four = fourth-side a.x a.y b.x b.y n r p.y ha.x_low ha.y_low hb.x_low hb.y_low ho.x_low o other.1 in
      let all = core a.x a.y b.x b.y ha.x_low ha.y_low hb.x_low hb.y_low (curve-of a ha) (curve-of b hb) in
      let turned : times (times m (times s (minus 1 w))) (times r (minus 1 p.y)) ≡ times (times k (times s (plus 1 w))) (times r (plus 1 p.y)) =
      ap₂ (λ (f g : ℕ). times (times m f) g) one three ∙ all ∙ sym (ap₂ (λ (f g : ℕ). times (times k f) g) two four) in
      let m_low = times-low (plus a.y b.y) (plus a.y b.y) in
      let k_low = times-low (minus b.y a.y) (minus b.y a.y) in
      let a1_low = minus-low 1 w in
      let a2_low = plus-low 1 w in
      let b1_low = minus-low 1 p.y in
      let b2_low = plus-low 1 p.y in
      let grouped = regrouped m k s r (minus 1 w) (plus 1 w) (minus 1 p.y) (plus 1 p.y)
      (m_low, (k_low, (found.1.s_low, (other.1.s_low, (a1_low, (a2_low, (b1_low, (b2_low, tt)))))))) turned in
      let short = cancel (times s r) _ _ (times-low s r) (times-low _ _) (times-low _ _)
      (nonzero-times s r found.1.s_low other.1.s_low found.2 other.2) grouped in
      let long = without-known m k (minus 1 w) (plus 1 w) (minus 1 p.y) (plus 1 p.y) x1
      (m_low, (k_low, (a1_low, (a2_low, (b1_low, (b2_low, (x1_low, tt))))))) short known in
      cancel (minus 1 p.y) _ _ b1_low (times-low _ _) (times-low _ _) not_neutral long

  -- not both y are 0
  not_both : a.y ≡ 0 → b.y ≡ 0 → ⊥
  not_both e f =
      let on_a : IsOnCurve a.x 0 = subst (λ (y : ℕ). IsOnCurve a.x y) e (curve-of a ha) in
      let on_b : IsOnCurve b.x 0 = subst (λ (y : ℕ). IsOnCurve b.x y) f (curve-of b hb) in
      let second = subst (λ (y : ℕ). IsSecond b.x y (opposite a).x 0 other.0 p.y) f
      (subst (λ (y : ℕ). IsSecond b.x b.y (opposite a).x y other.0 p.y) e other.1) in
      let none = halves a.x b.x (opposite a).x other.0 p.y
      (ha.x_low, (hb.x_low, (ho.x_low, (other.1.s_low, (hp.y_low, tt))))) on_a on_b (opposite-x a ha) second in
      elim (zero-product (minus 1 p.y) (plus 1 p.y) (minus-low 1 p.y) (plus-low 1 p.y) none) [
        | inl g ↦ not_neutral g
        | inr g ↦ nonzero-times x1 (minus 1 p.y) x1_low (minus-low 1 p.y) x1_some not_neutral (known ∙ g)
      ]

  module _ (xa za xb zb : ℕ) (sa : Stands xa za a) (sb : Stands xb zb b) where
    A : ℕ
    A = plus xa za

    C : ℕ
    C = plus xb zb

    da-is : times (minus xb zb) (plus xa za) ≡ times (times C b.y) A
    unfolding A C
    da-is = ap (λ (n : ℕ). times n (plus xa za)) (sym sb.is)

    cb-is : times (plus xb zb) (minus xa za) ≡ times C (times A a.y)
    unfolding A C
    cb-is = ap (times (plus xb zb)) (sym sa.is)

    is-added : times (plus (added_x xa za xb zb) (added_z x1 xa za xb zb)) (sum a b).y ≡ minus (added_x xa za xb zb) (added_z x1 xa za xb zb)
    unfolding added_x added_z A C
    is-added =
        let h = sum-point prime d curve a b ha hb in
        let made = added-is (plus xa za) (plus xb zb) a.y b.y x1 (sum a b).y
        (plus-low xa za, (plus-low xb zb, (ha.y_low, (hb.y_low, (x1_low, (h.y_low, tt)))))) relation in
        subst (λ (f : ℕ). let cb = times (plus xb zb) (minus xa za) in
        let x3 = times (plus f cb) (plus f cb) in let z3 = times x1 (times (minus f cb) (minus f cb)) in
        times (plus x3 z3) (sum a b).y ≡ minus x3 z3) (sym da-is)
        (subst (λ (g : ℕ). let da = times (times (plus xb zb) b.y) (plus xa za) in
        let x3 = times (plus da g) (plus da g) in let z3 = times x1 (times (minus da g) (minus da g)) in
        times (plus x3 z3) (sum a b).y ≡ minus x3 z3) (sym cb-is) made)

    some-added : plus (added_x xa za xb zb) (added_z x1 xa za xb zb) ≢ 0
    unfolding added_x added_z A C
    some-added none =
        let da = times (minus xb zb) (plus xa za) in
        let cb = times (plus xb zb) (minus xa za) in
        let x3 = added_x xa za xb zb in
        let z3 = added_z x1 xa za xb zb in
        let gone : minus x3 z3 ≡ 0 = sym is-added ∙ ap (λ (n : ℕ). times n (sum a b).y) none ∙ none-times (sum a b).y in
        let both = both-none x3 z3 (times-low _ _) (times-low _ _) none gone in
        let sum_none : plus da cb ≡ 0 = square-none (plus da cb) (plus-low da cb) both.0 in
        let difference_none : minus da cb ≡ 0 =
        elim (zero-product x1 (times (minus da cb) (minus da cb)) x1_low (times-low _ _) both.1) [
          | inl g ↦ absurd (x1_some g)
          | inr g ↦ square-none (minus da cb) (minus-low da cb) g
        ] in
        let parts = both-none da cb (times-low _ _) (times-low _ _) sum_none difference_none in
        let b_none : b.y ≡ 0 = factor-none (plus xb zb) b.y (plus-low xb zb) hb.y_low sb.some
        (factor-last (times (plus xb zb) b.y) (plus xa za) (times-low _ _) (plus-low xa za) sa.some (sym da-is ∙ parts.0)) in
        let a_none : a.y ≡ 0 = factor-none (plus xa za) a.y (plus-low xa za) ha.y_low sa.some
        (factor-none (plus xb zb) (times (plus xa za) a.y) (plus-low xb zb) (times-low _ _) sb.some (sym cb-is ∙ parts.1)) in
        not_both a_none b_none
      where
        square-none : (n : ℕ) → n < prime → times n n ≡ 0 → n ≡ 0
        square-none n low e = elim (zero-product n n low low e) [ inl f ↦ f | inr f ↦ f ]

        factor-none : (c n : ℕ) → c < prime → n < prime → c ≢ 0 → times c n ≡ 0 → n ≡ 0
        factor-none c n c_low n_low some e = elim (zero-product c n c_low n_low e) [ inl f ↦ absurd (some f) | inr f ↦ f ]

        factor-last : (n c : ℕ) → n < prime → c < prime → c ≢ 0 → times n c ≡ 0 → n ≡ 0
        factor-last n c n_low c_low some e = elim (zero-product n c n_low c_low e) [ inl f ↦ f | inr f ↦ absurd (some f) ]

    added-stands : Stands (added_x xa za xb zb) (added_z x1 xa za xb zb) (sum a b)
    unfolding added_x added_z
    added-stands = record { x_low = times-low _ _; z_low = times-low _ _; some = some-added; is = is-added }

-- ---- a turn

neutral-some : plus 1 0 ≢ 0
unfolding plus
neutral-some e = absurd (omega (arith, e))

neutral-is : times (plus 1 0) 1 ≡ minus 1 0
unfolding plus times minus
neutral-is = refl

difference-is : (m : ℕ) (a : Affine) → IsPoint a → sum (multiple (suc m) a) (opposite (multiple m a)) ≡ a
unfolding multiple_of
difference-is m a h =
    let b = multiple m a in
    let hb = multiple-point prime d curve m a h in
    let o = opposite b in
    let ho = opposite-point prime d curve b hb in
    ap (λ (q : Affine). sum q o) (sum-commutative prime d b a) ∙ sum-associative prime d curve a b o h hb ho
    ∙ ap (λ (q : Affine). sum a q) (sum-commutative prime d b o ∙ sum-opposite prime d curve b hb) ∙ neutral-sum prime d curve a h

-- u of [m]P and of [m + 1]P, once the last swap is made
pub record IsState (m : ℕ) (a : Affine) (n : Numbers) : Type 0 where
  pub bit : n.swap < 2
  pub first : Stands (swapped n.swap n).x2 (swapped n.swap n).z2 (multiple m a)
  pub second : Stands (swapped n.swap n).x3 (swapped n.swap n).z3 (multiple (suc m) a)

abbrev numbers : ℕ → ℕ → ℕ → ℕ → ℕ → Numbers
numbers x2 z2 x3 z3 swap = record { x2 = x2; z2 = z2; x3 = x3; z3 = z3; swap = swap }

module _ (a : Affine) (ha : IsPoint a) (x1 : ℕ) (x1_low : x1 < prime) (x1_some : x1 ≢ 0) (not_neutral : minus 1 a.y ≢ 0)
    (known : times x1 (minus 1 a.y) ≡ plus 1 a.y) where
  point : (m : ℕ) → IsPoint (multiple m a)
  point m = multiple-point prime d curve m a ha

  sum-of : (m k n : ℕ) → m + k ≡ n → sum (multiple m a) (multiple k a) ≡ multiple n a
  sum-of m k n e = sym (multiple-plus prime d curve m k a ha) ∙ ap (λ (i : ℕ). multiple i a) e

  twice-stands : (m n x z : ℕ) → m + m ≡ n → Stands x z (multiple m a) → Stands (doubled_x x z) (doubled_z x z) (multiple n a)
  twice-stands m n x z e s = subst (Stands (doubled_x x z) (doubled_z x z)) (sum-of m m n e) (double-stands x z (multiple m a) (point m) s)

  both-stand : (m n xa za xb zb : ℕ) → m + suc m ≡ n → Stands xa za (multiple m a) → Stands xb zb (multiple (suc m) a)
      → Stands (added_x xa za xb zb) (added_z x1 xa za xb zb) (multiple n a)
  both-stand m n xa za xb zb e sa sb =
      subst (Stands (added_x xa za xb zb) (added_z x1 xa za xb zb)) (sum-of m (suc m) n e)
      (added-stands (multiple m a) (multiple (suc m) a) a x1 (point m) (point (suc m)) ha (difference-is m a ha) x1_low x1_some not_neutral known
      xa za xb zb sa sb)

  straight : (m xa za xb zb swap : ℕ) → Stands xa za (multiple m a) → Stands xb zb (multiple (suc m) a)
      → IsState (2 * m + 0) a (stepped x1 0 (numbers xa za xb zb swap))
  unfolding stepped swapped doubled_x doubled_z added_x added_z
  straight m xa za xb zb swap sa sb = record {
    bit = lit< tt;
    first = twice-stands m (2 * m + 0) xa za (omega arith) sa;
    second = both-stand m (suc (2 * m + 0)) xa za xb zb (omega arith) sa sb;
  }

  turned_x : (xa za xb zb : ℕ) → added_x xa za xb zb ≡ added_x xb zb xa za
  unfolding added_x
  turned_x xa za xb zb =
      let e : plus (times (minus xb zb) (plus xa za)) (times (plus xb zb) (minus xa za)) ≡ plus (times (minus xa za) (plus xb zb)) (times (plus xa za) (minus xb zb)) =
      ap₂ plus (times-turned (minus xb zb) (plus xa za)) (times-turned (plus xb zb) (minus xa za))
      ∙ plus-turned (times (plus xa za) (minus xb zb)) (times (minus xa za) (plus xb zb)) in
      ap (λ (n : ℕ). times n n) e

  turned_z : (xa za xb zb : ℕ) → added_z x1 xa za xb zb ≡ added_z x1 xb zb xa za
  unfolding added_z
  turned_z xa za xb zb =
      let da = times (minus xb zb) (plus xa za) in
      let cb = times (plus xb zb) (minus xa za) in
      ap (times x1) (same-squares da cb (times-low _ _) (times-low _ _)
      ∙ ap₂ (λ (p q : ℕ). times (minus p q) (minus p q)) (times-turned (plus xb zb) (minus xa za)) (times-turned (minus xb zb) (plus xa za)))

  crossed : (m xa za xb zb swap : ℕ) → Stands xa za (multiple m a) → Stands xb zb (multiple (suc m) a)
      → IsState (2 * m + 1) a (stepped x1 1 (numbers xb zb xa za swap))
  unfolding stepped swapped doubled_x doubled_z added_x added_z
  crossed m xa za xb zb swap sa sb =
      let made = both-stand m (2 * m + 1) xa za xb zb (omega arith) sa sb in
      record {
        bit = lit< tt;
        first = subst (λ (z : ℕ). Stands (added_x xb zb xa za) z (multiple (2 * m + 1) a)) (turned_z xa za xb zb)
            (subst (λ (x : ℕ). Stands x (added_z x1 xa za xb zb) (multiple (2 * m + 1) a)) (turned_x xa za xb zb) made);
        second = twice-stands (suc m) (suc (2 * m + 1)) xb zb (omega arith) sb;
      }

  turn : (m x2 z2 x3 z3 swap bit : ℕ) → swap < 2 → bit < 2 → IsState m a (numbers x2 z2 x3 z3 swap)
      → IsState (2 * m + bit) a (turned x1 bit (numbers x2 z2 x3 z3 swap))
  unfolding swapped
  turn m x2 z2 x3 z3 zero zero hs hb s = straight m x2 z2 x3 z3 0 s.first s.second
  turn m x2 z2 x3 z3 zero (suc zero) hs hb s = crossed m x2 z2 x3 z3 0 s.first s.second
  turn m x2 z2 x3 z3 (suc zero) zero hs hb s = straight m x3 z3 x2 z2 1 s.first s.second
  turn m x2 z2 x3 z3 (suc zero) (suc zero) hs hb s = crossed m x3 z3 x2 z2 1 s.first s.second
  turn m x2 z2 x3 z3 (suc (suc i)) bit hs hb s = absurd (omega (arith, hs))
  turn m x2 z2 x3 z3 swap (suc (suc i)) hs hb s = absurd (omega (arith, hb))

  turn-of : (m bit : ℕ) (n : Numbers) → bit < 2 → IsState m a n → IsState (2 * m + bit) a (turned x1 bit n)
  turn-of m bit n hb s = turn m n.x2 n.z2 n.x3 n.z3 n.swap bit s.bit hb s

  -- ---- all turns

  at-start : IsState 0 a (start x1)
  unfolding swapped multiple_of
  at-start =
      let equal = start-is x1 a.y x1_low ha.y_low known in
      let some : plus x1 1 ≢ 0 = λ none.
      let gone : minus x1 1 ≡ 0 = sym equal ∙ ap (λ (n : ℕ). times n a.y) none ∙ none-times a.y in
      absurd (omega (arith, (both-none x1 1 x1_low (lit< tt) none gone).1)) in
      record {
        bit = lit< tt;
        first = neutral-stands;
        second = subst (Stands x1 1) (sym (sum-neutral prime d curve a ha)) (record { x_low = x1_low; z_low = lit< tt; some = some; is = equal });
      }
    where
      neutral-stands : Stands 1 0 neutral
      neutral-stands = record { x_low = lit< tt; z_low = lit< tt; some = neutral-some; is = neutral-is }

  all-turns : (k t : ℕ) → k < 2 ^ 255 → t ≤ 255 → IsState (k / 2 ^ (255 - t)) a (turns k x1 t)
  unfolding turns
  all-turns k zero h low =
      let none : 0 ≡ k / 2 ^ (255 - 0) = omega (arith, h) in
      subst (λ m. IsState m a (start x1)) none at-start
  all-turns k (suc t) h low =
      let before = all-turns k t h (omega (arith, low)) in
      let q : ℕ = k / 2 ^ (254 - t) in
      let next : 255 - t ≡ (254 - t) + 1 = omega (arith, low) in
      let half : k / 2 ^ (255 - t) ≡ q / 2 = ap (λ i. k / 2 ^ i) next ∙ sym (Rattle.std.proofs.lemmas.Nat.shr-shr k (254 - t) 1) in
      let same : 254 - t ≡ 255 - suc t = omega (arith, low) in
      let whole : 2 * (q / 2) + q % 2 ≡ k / 2 ^ (255 - suc t) = joined q ∙ ap (λ i. k / 2 ^ i) same in
      subst (λ m. IsState m a (turned x1 (q % 2) (turns k x1 t))) whole
      (turn-of (q / 2) (q % 2) (turns k x1 t) (mod-lt q (lit< tt)) (subst (λ m. IsState m a (turns k x1 t)) half before))
    where
      joined : (q : ℕ) → 2 * (q / 2) + q % 2 ≡ q
      joined q = omega arith

-- ---- the quotient

zero-power : (z n : ℕ) → z ≡ 0 → 0 < n → z ^ n % prime ≡ 0
zero-power z zero e h = absurd (omega (arith, h))
zero-power z (suc n) e h =
    let same : z ^ suc n ≡ 0 = ap (λ (i : ℕ). i ^ suc n) e ∙ pow-suc 0 n ∙ nothing (0 ^ n) in
    ap (λ (i : ℕ). i % prime) same
  where
    nothing : (n : ℕ) → n * 0 ≡ 0
    nothing n = omega arith

none-inverse : (z : ℕ) → z ≡ 0 → inverse z ≡ 0
unfolding power
none-inverse z e = zero-power z (prime - 2) e (lit< tt)

pub inverse-is : (z : ℕ) → z < prime → z ≢ 0 → times z (inverse z) ≡ 1
unfolding times power
inverse-is z low some = inverse-of prime z is-prime (λ e. some (sym (mod-eq_of_lt low) ∙ e))

inverse-low : (z : ℕ) → inverse z < prime
unfolding power
inverse-low z = mod-lt (z ^ (prime - 2)) (lit< tt)

times-none : (x : ℕ) → times x 0 ≡ 0
times-none x = times-turned x 0 ∙ none-times x

one-of : (y : ℕ) → y < prime → minus 1 y ≡ 0 → y ≡ 1
unfolding minus
one-of y low e = omega (arith, low, e)

no-z : (x z : ℕ) → x < prime → z < prime → times (plus x z) 1 ≡ minus x z → z ≡ 0
unfolding times plus minus
no-z x z hx hz e = omega (arith, hx, hz, e)

plus-none : (x : ℕ) → plus x 0 ≡ x % prime
unfolding plus
plus-none x = let e : x + 0 ≡ x = omega arith in ap (λ (n : ℕ). n % prime) e

pub quotient-is : (x z : ℕ) (q : Affine) → q.y < prime → Stands x z q → times x (inverse z) ≡ u_of q
quotient-is x z q y_low s = elim (cases_eq (minus 1 q.y) 0) [
  | inl none ↦
      let y_is : q.y ≡ 1 = one-of q.y y_low none in
      let z_is : z ≡ 0 = no-z x z s.x_low s.z_low (ap (times (plus x z)) (sym y_is) ∙ s.is) in
      ap (times x) (none-inverse z z_is) ∙ times-none x
      ∙ sym (ap (times (plus 1 q.y)) (none-inverse (minus 1 q.y) none) ∙ times-none (plus 1 q.y))
  | inr finite ↦
      let some : z ≢ 0 = λ e.
      let equal : times (plus x 0) q.y ≡ minus x 0 = subst (λ (n : ℕ). times (plus x n) q.y ≡ minus x n) e s.is in
      let product = point-z x q.y s.x_low y_low equal in
      elim (zero-product x (minus 1 q.y) s.x_low (minus-low 1 q.y) product) [
        | inl f ↦ s.some (ap₂ plus f e ∙ plus-none 0)
        | inr f ↦ finite f
      ] in
      quotients x z (inverse z) q.y (inverse (minus 1 q.y))
      (s.x_low, (s.z_low, (inverse-low z, (y_low, (inverse-low (minus 1 q.y), tt)))))
      (inverse-is z s.z_low some) (inverse-is (minus 1 q.y) (minus-low 1 q.y) finite) s.is
]

-- where u of the point is not 0
finite-ladder : (k : ℕ) (a : Affine) → IsPoint a → k < 2 ^ 255 → u_of a ≢ 0 → ladder k (u_of a) ≡ u_of (multiple k a)
unfolding quotient
finite-ladder k a ha h some =
    let x1 : ℕ = u_of a in
    let finite : minus 1 a.y ≢ 0 = λ none. some (ap (times (plus 1 a.y)) (none-inverse (minus 1 a.y) none) ∙ times-none (plus 1 a.y)) in
    let known = known-is a.y (inverse (minus 1 a.y)) ha.y_low (inverse-low (minus 1 a.y)) (inverse-is (minus 1 a.y) (minus-low 1 a.y) finite) in
    let s = all-turns a ha x1 (times-low _ _) some finite known k 255 h (omega arith) in
    let whole : k / 2 ^ (255 - 255) ≡ k = omega arith in
    let q = multiple k a in
    let first = subst (λ (m : ℕ). Stands (swapped (turns k x1 255).swap (turns k x1 255)).x2 (swapped (turns k x1 255).swap (turns k x1 255)).z2 (multiple m a)) whole s.first in
    quotient-is _ _ q (multiple-point prime d curve k a ha).y_low first

-- ---- where u of the point is 0: it is neutral, or (0, -1)

-- each quotient is 0
record AreNone (n : Numbers) : Type 0 where
  first : times n.x2 n.z2 ≡ 0
  second : times n.x3 n.z3 ≡ 0
  x2_low : n.x2 < prime
  z2_low : n.z2 < prime
  x3_low : n.x3 < prime
  z3_low : n.z3 < prime

swapped-none : (choice : ℕ) (n : Numbers) → AreNone n → AreNone (swapped choice n)
unfolding swapped
swapped-none zero n h = h
swapped-none (suc _) n h =
    record { first = h.second; second = h.first; x2_low = h.x3_low; z2_low = h.z3_low; x3_low = h.x2_low; z3_low = h.z2_low }

stepped-none : (bit : ℕ) (n : Numbers) → AreNone n → AreNone (stepped 0 bit n)
unfolding stepped
stepped-none bit n h =
    let aa = times (plus n.x2 n.z2) (plus n.x2 n.z2) in
    let bb = times (minus n.x2 n.z2) (minus n.x2 n.z2) in
    let e = double-none n.x2 n.z2 h.x2_low h.z2_low h.first in
    let z_is : times (minus aa bb) (plus aa (times a24 (minus aa bb))) ≡ 0 =
    ap (λ (i : ℕ). times i (plus aa (times a24 (minus aa bb)))) e ∙ none-times _ in
    record {
      first = ap (times (times aa bb)) z_is ∙ times-none (times aa bb);
      second = ap (times _) (none-times _) ∙ times-none _;
      x2_low = times-low _ _;
      z2_low = times-low _ _;
      x3_low = times-low _ _;
      z3_low = times-low _ _;
    }

turns-none : (k t : ℕ) → AreNone (turns k 0 t)
unfolding turns
turns-none k zero = record {
  first = times-none 1;
  second = none-times 1;
  x2_low = lit< tt;
  z2_low = lit< tt;
  x3_low = lit< tt;
  z3_low = lit< tt;
}
turns-none k (suc t) = stepped-none _ _ (swapped-none _ _ (turns-none k t))

none-quotient : (x z : ℕ) → x < prime → z < prime → times x z ≡ 0 → times x (inverse z) ≡ 0
none-quotient x z hx hz e = elim (zero-product x z hx hz e) [
  | inl f ↦ ap (λ (n : ℕ). times n (inverse z)) f ∙ none-times (inverse z)
  | inr f ↦ ap (times x) (none-inverse z f) ∙ times-none x
]

none-ladder : (k : ℕ) → ladder k 0 ≡ 0
unfolding quotient
none-ladder k =
    let h = swapped-none (turns k 0 255).swap (turns k 0 255) (turns-none k 255) in
    none-quotient _ _ h.x2_low h.z2_low h.first

one-d : plus 1 d ≢ 0
unfolding plus
one-d e = absurd (omega (arith, e))

neutral-square : times (minus 1 1) (plus 1 1) ≡ 0
unfolding times minus plus
neutral-square = refl

-- a point whose x is 0
record IsFlat (a : Affine) : Type 0 where
  point : IsPoint a
  none : a.x ≡ 0
  square : times (minus 1 a.y) (plus 1 a.y) ≡ 0

flat-of : (a : Affine) → IsPoint a → times (minus 1 a.y) (plus 1 a.y) ≡ 0 → IsFlat a
flat-of a ha e =
    let product = square-x a.x a.y ha.x_low ha.y_low (curve-of a ha) e in
    record {
      point = ha;
      none = elim (zero-product (plus 1 d) (times a.x a.x) (plus-low 1 d) (times-low a.x a.x) product) [
        | inl f ↦ absurd (unit f)
        | inr f ↦ elim (zero-product a.x a.x ha.x_low ha.x_low f) [ inl g ↦ g | inr g ↦ g ]
      ];
      square = e;
    }
  where
    unit : plus 1 d ≢ 0
    unit e = one-d e

flat-sum : (a b : Affine) → IsFlat a → IsFlat b → IsFlat (sum a b)
flat-sum a b ha hb =
    let found = second-is a b ha.point hb.point in
    let second = subst (λ (x : ℕ). IsSecond x a.y 0 b.y found.0 (sum a b).y) ha.none
    (subst (λ (x : ℕ). IsSecond a.x a.y x b.y found.0 (sum a b).y) hb.none found.1) in
    flat-of (sum a b) (sum-point prime d curve a b ha.point hb.point)
    (sum-square a.y b.y found.0 (sum a b).y ha.point.y_low hb.point.y_low second ha.square hb.square)

flat-multiple : (k : ℕ) (a : Affine) → IsFlat a → IsFlat (multiple k a)
unfolding multiple_of
flat-multiple zero a h = flat-of neutral (neutral-point prime d curve) neutral-square
flat-multiple (suc k) a h = flat-sum (multiple k a) a (flat-multiple k a h) h

flat-u : (a : Affine) → IsFlat a → u_of a ≡ 0
flat-u a h = elim (zero-product (minus 1 a.y) (plus 1 a.y) (minus-low 1 a.y) (plus-low 1 a.y) h.square) [
  | inl e ↦ ap (times (plus 1 a.y)) (none-inverse (minus 1 a.y) e) ∙ times-none (plus 1 a.y)
  | inr e ↦ ap (λ (n : ℕ). times n (inverse (minus 1 a.y))) e ∙ none-times (inverse (minus 1 a.y))
]

u-flat : (a : Affine) → IsPoint a → u_of a ≡ 0 → IsFlat a
u-flat a ha e = flat-of a ha (elim (cases_eq (minus 1 a.y) 0) [
  | inl none ↦ ap (λ (n : ℕ). times n (plus 1 a.y)) none ∙ none-times (plus 1 a.y)
  | inr finite ↦
      elim (zero-product (plus 1 a.y) (inverse (minus 1 a.y)) (plus-low 1 a.y) (inverse-low (minus 1 a.y)) e) [
        | inl f ↦ ap (times (minus 1 a.y)) f ∙ times-none (minus 1 a.y)
        | inr f ↦
            let one_is = inverse-is (minus 1 a.y) (minus-low 1 a.y) finite in
            let zero_is : times (minus 1 a.y) (inverse (minus 1 a.y)) ≡ 0 = ap (times (minus 1 a.y)) f ∙ times-none (minus 1 a.y) in
            absurd (omega (arith, sym one_is ∙ zero_is))
      ]
])

pub ladder_is_multiple : (k : ℕ) (a : Affine) → IsPoint a → k < 2 ^ 255 → ladder k (u_of a) ≡ u_of (multiple k a)
ladder_is_multiple k a ha h = elim (cases_eq (u_of a) 0) [
  | inl none ↦ ap (ladder k) none ∙ none-ladder k ∙ sym (flat-u (multiple k a) (flat-multiple k a (u-flat a ha none)))
  | inr some ↦ finite-ladder k a ha h some
]

-- where u is 0 the point is of small order
pub u-small : (a : Affine) → IsPoint a → u_of a ≡ 0 → HasSmallOrder a
u-small a ha e =
    let flat = u-flat a ha e in
    zero-is_small a (sum a a) ha refl (inl (flat-sum a a flat flat).none)

-- The multiple of each point of P-384 by n, the order of the base point, is neutral: the curve has no other points than the
-- multiples of one that has this order. Else the sums of the n multiples of G and of 0, 1 and 2 times the point were 3 * n
-- points, and the curve has at most 2 * p + 1.
use Rattle.std.proofs.Common.{◌≡◌, ◌≢◌, ◌≤◌, ℕ, zero, suc, ◌+◌, ◌-◌, ◌*◌, ◌/◌, ◌%◌, ◌<◌, inl, inr, [], ◌∷◌, refl, sym, ◌∙◌, ap, subst, arith, mod-eq_of_lt, mod-lt, lit<}
use Rattle.std.specs.Prelude.{nat_eq, if◌then◌else◌}
use Rattle.std.proofs.lemmas.Bool.{cases_eq, cases_lt}
use Rattle.std.proofs.lemmas.Bool.Decides.{nat_tests}
use Rattle.paseto_primes.specs.Element.{minus as minus_modulo, plus as plus_modulo}
use Rattle.paseto_primes.specs.Polynomial.{constant, difference, product, sum}
use Rattle.paseto_weierstrass_laws.specs.Curve.{order}
use Rattle.paseto_weierstrass_laws.specs.Field.{minus, plus, prime, times}
use Rattle.paseto_weierstrass_laws.specs.Group.{IsPoint, Same}
use Rattle.paseto_weierstrass_laws.specs.Multiples.{IsMultiple, IsSum, multiple_of}
use Rattle.paseto_weierstrass_laws.specs.Point.{Point, base, neutral, point_add, point_double}
use Rattle.paseto_weierstrass_laws.proofs.FieldLaws.{minus-below, plus-below, times-zero, times_one, times_unit, zero_or_not}
use Rattle.paseto_weierstrass_laws.proofs.Formulas.{cubic_expr, summing}
use Rattle.paseto_weierstrass_laws.proofs.GroupLaws.{sum-associates}
use Rattle.paseto_weierstrass_laws.proofs.Identities.{equation, identity, v0, v1, v2}
use Rattle.paseto_weierstrass_laws.proofs.Lines.{opposite-sum, same_plane}
use Rattle.paseto_weierstrass_laws.proofs.MultipleLaws.{multiple-double, multiple-is_point, multiple-itself, multiple-neutral, multiple-of_same, multiple-plus, multiples-same, sum-first, sum-made, sum-of_same, sum-plus}
use Rattle.paseto_weierstrass_laws.proofs.OrderLaws.{divided-neutral, neutral-multiples, neutral-times, order-divides}
use Rattle.paseto_weierstrass_laws.proofs.Plane.{IsPlane, plane_point}
use Rattle.paseto_weierstrass_laws.proofs.PointLaws.{Kind, at_infinity, base-is_point, in_plane, kind, neutral-is_point, neutral-same, plane-is_point, same_refl, same_sym, same_trans}
use Rattle.paseto_weierstrass_laws.proofs.SumLaws.{double-same, sum-is_point, sum-neutral, sum-neutral_first, sum-same, sum-same_first, sum_comm, y-some}

-- ---- more numbers than places

moved : ℕ → ℕ → ℕ → ℕ
moved m last v = if nat_eq v m then last else v

moved-there : (m last v : ℕ) → v ≡ m → moved m last v ≡ last
unfolding moved
moved-there m last v e = grind (arith, nat_tests)

moved-not : (m last v : ℕ) → v ≢ m → moved m last v ≡ v
unfolding moved
moved-not m last v e = grind (arith, nat_tests)

-- numbers below m that are all different are at most m
pigeon : (m n : ℕ) (f : ℕ → ℕ) → ((i : ℕ) → i < n → f i < m) → ((i j : ℕ) → i < j → j < n → f i ≢ f j) → n ≤ m
pigeon zero zero f below apart = omega arith
pigeon zero (suc n) f below apart = omega (arith, below 0 (omega arith))
pigeon (suc m) zero f below apart = omega arith
pigeon (suc m) (suc n) f below apart =
    let g : ℕ → ℕ = λ i. moved m (f n) (f i) in
    let g_below : (i : ℕ) → i < n → g i < m = λ i h. elim (cases_eq (f i) m) [
      | inl e ↦
          let last : f n ≢ m = λ k. apart i n h (omega arith) (e ∙ sym k) in
          rw (moved-there m (f n) (f i) e) (under (f n) m (below n (omega arith)) last)
      | inr e ↦ rw (moved-not m (f n) (f i) e) (under (f i) m (below i (omega arith)) e)
    ] in
    let g_apart : (i j : ℕ) → i < j → j < n → g i ≢ g j = λ i j h k same. elim (cases_eq (f i) m) [
      | inl a ↦ elim (cases_eq (f j) m) [
        | inl b ↦ apart i j h (omega arith) (a ∙ sym b)
        | inr b ↦ apart j n k (omega arith) (sym (moved-not m (f n) (f j) b) ∙ sym same ∙ moved-there m (f n) (f i) a)
      ]
      | inr a ↦ elim (cases_eq (f j) m) [
        | inl b ↦ apart i n (omega arith) (omega arith) (sym (moved-not m (f n) (f i) a) ∙ same ∙ moved-there m (f n) (f j) b)
        | inr b ↦ apart i j h (omega arith) (sym (moved-not m (f n) (f i) a) ∙ same ∙ moved-not m (f n) (f j) b)
      ]
    ] in
    omega (arith, pigeon m n g g_below g_apart)
  where
    under : (v m : ℕ) → v < suc m → v ≢ m → v < m
    under v m h e = grind (arith, h, e)

-- ---- a number for each point, below 2 * p + 1

number_of : (p : Point) → Kind p → ℕ
number_of p (at_infinity s) = 2 * prime
number_of p (in_plane x y h s) = 2 * x + y % 2

number-below : (p : Point) (k : Kind p) → number_of p k < 2 * prime + 1
unfolding number_of
number-below p (at_infinity s) = omega arith
number-below p (in_plane x y h s) = omega (arith, h.x_below)

difference-none : (y w : ℕ) → y < prime → w < prime → minus y w ≡ 0 → y ≡ w
unfolding minus minus_modulo
difference-none y w h k e = omega (arith, h, k, e)

-- opposite numbers have different lowest bits, since p is odd, unless both are 0
sum-none : (y w : ℕ) → y < prime → w < prime → y % 2 ≡ w % 2 → plus y w ≡ 0 → y ≡ w
unfolding plus plus_modulo
sum-none y w h k parity e = omega (arith, h, k, parity, e)

-- a point of the plane is known by its x and by the lowest bit of its y
same-y : (x y w : ℕ) → IsPlane x y → IsPlane x w → y % 2 ≡ w % 2 → y ≡ w
unfolding summing
same-y x y w hy hw parity =
    let squares : times (minus y w) (plus y w) ≡ 0 =
    identity 3 (x ∷ y ∷ w ∷ []) (hy.x_below, (hy.y_below, (hw.y_below, tt)))
    (equation (constant 1) (product (product v1 v1) (constant 1)) (cubic_expr v0 (constant 1))
    ∷ equation (constant 1) (cubic_expr v0 (constant 1)) (product (product v2 v2) (constant 1)) ∷ [])
    (hy.on_curve, (sym hw.on_curve, tt)) (product (difference v1 v2) (sum v1 v2)) (constant 0) refl in
    elim (zero_or_not (minus y w)) [
      | inl none ↦ difference-none y w hy.y_below hw.y_below none
      | inr some ↦
          sum-none y w hy.y_below hw.y_below parity (times-zero (minus y w) (plus y w) (minus-below y w) (plus-below y w) some squares)
    ]

-- points of one number are the same
number-same : (p q : Point) → IsPoint p → IsPoint q → (k : Kind p) (l : Kind q) → number_of p k ≡ number_of q l → Same p q
unfolding number_of
number-same p q hp hq (at_infinity s) (at_infinity t) e = same_trans hp (same_sym neutral-is_point hp s) t
number-same p q hp hq (at_infinity s) (in_plane v w k t) e = absurd (omega (arith, e, k.x_below))
number-same p q hp hq (in_plane x y h s) (at_infinity t) e = absurd (omega (arith, e, h.x_below))
number-same p q hp hq (in_plane x y h s) (in_plane v w k t) e =
    let first : x ≡ v = omega (arith, e) in
    let parity : y % 2 ≡ w % 2 = omega (arith, e) in
    let one : plane_point x y ≡ plane_point v w = same_plane x y v w first (same-y v y w (subst (λ (c : ℕ). IsPlane c y) first h) k parity) in
    same_trans hp (same_sym (plane-is_point x y h) hp s) (subst (λ (r : Point). Same r q) (sym one) t)

-- ---- opposites

pub opposite-plane : (x y : ℕ) → IsPlane x y → IsPlane x (minus 0 y)
unfolding summing
opposite-plane x y h =
    let opposite = difference (constant 0) v1 in
    record {
      x_below = h.x_below;
      y_below = minus-below 0 y;
      on_curve = identity 2 (x ∷ y ∷ []) (h.x_below, (h.y_below, tt))
          (equation (constant 1) (product (product v1 v1) (constant 1)) (cubic_expr v0 (constant 1)) ∷ []) (h.on_curve, tt)
          (product (product opposite opposite) (constant 1)) (cubic_expr v0 (constant 1)) refl;
    }

opposite-none : (y : ℕ) → y < prime → plus y (minus 0 y) ≡ 0
unfolding summing
opposite-none y h =
    identity 1 (y ∷ []) (h, tt) [] tt (sum v0 (difference (constant 0) v0)) (constant 0) refl

-- a point whose sum with this one is neutral
pub record HasOpposite (p : Point) : Type 0 where
  pub opposite : Point
  pub is_point : IsPoint opposite
  pub none : Same (point_add p opposite) neutral

pub opposite_of : (p : Point) → IsPoint p → HasOpposite p
opposite_of p hp = elim (kind p hp) [
  | at_infinity s ↦
      record {
        opposite = neutral;
        is_point = neutral-is_point;
        none = same_trans (sum-is_point p neutral hp neutral-is_point)
            (same_sym hp (sum-is_point p neutral hp neutral-is_point) (sum-neutral p hp)) (same_sym neutral-is_point hp s);
      }
  | in_plane x y h s ↦
      let o = plane_point x (minus 0 y) in
      let ho = plane-is_point x (minus 0 y) (opposite-plane x y h) in
      let hq = plane-is_point x y h in
      record {
        opposite = o;
        is_point = ho;
        none = same_trans (sum-is_point p o hp ho)
            (sum-same_first p (plane_point x y) o hp ho (same_sym hq hp s))
            (opposite-sum x y x (minus 0 y) h (opposite-plane x y h) refl (opposite-none y h.y_below));
      }
]

-- what is common to two sums that are the same falls out
pub cancel-second : (a b c : Point) → IsPoint a → IsPoint b → IsPoint c → Same (point_add a c) (point_add b c) → Same a b
cancel-second a b c ha hb hc e =
    let o = opposite_of c hc in
    let back : (p : Point) → IsPoint p → Same (point_add (point_add p c) o.opposite) p = λ p hp.
    let whole = sum-is_point (point_add p c) o.opposite (sum-is_point p c hp hc) o.is_point in
    let inner = sum-is_point c o.opposite hc o.is_point in
    let kept : Same (point_add p (point_add c o.opposite)) (point_add p neutral) =
    sum-same p p (point_add c o.opposite) neutral hp hp inner neutral-is_point (same_refl p hp) o.none in
    same_trans whole (sum-associates p c o.opposite hp hc o.is_point)
    (same_trans (sum-is_point p (point_add c o.opposite) hp inner) kept
    (same_sym hp (sum-is_point p neutral hp neutral-is_point) (sum-neutral p hp))) in
    let left = sum-is_point (point_add a c) o.opposite (sum-is_point a c ha hc) o.is_point in
    same_trans ha (same_sym left ha (back a ha))
    (same_trans left (sum-same_first (point_add a c) (point_add b c) o.opposite (sum-is_point a c ha hc) o.is_point e) (back b hb))

cancel-first : (a b c : Point) → IsPoint a → IsPoint b → IsPoint c → Same (point_add c a) (point_add c b) → Same a b
cancel-first a b c ha hb hc e =
    cancel-second a b c ha hb hc
    (subst (λ (q : Point). Same q (point_add b c)) (sum_comm c a hc ha) (subst (λ (q : Point). Same (point_add c a) q) (sum_comm c b hc hb) e))

-- where [a]P and [a + b]P are the same, [b]P is neutral
rest-neutral : (p u : Point) (a b : ℕ) → IsPoint p → IsMultiple p u a → IsMultiple p u (a + b) → IsMultiple p neutral b
rest-neutral p u a b hp first second =
    let ma = multiple_of a p in
    let mb = multiple_of b p in
    let ha = multiple-is_point a p hp in
    let hb = multiple-is_point b p hp in
    let hab = multiple-is_point (a + b) p hp in
    let sum_is : Same (point_add ma mb) u =
    same_trans (sum-is_point ma mb ha hb) (same_sym hab (sum-is_point ma mb ha hb) (multiple-plus a b p hp)) second.same in
    let alone : Same (point_add ma neutral) u =
    same_trans (sum-is_point ma neutral ha neutral-is_point) (same_sym ha (sum-is_point ma neutral ha neutral-is_point) (sum-neutral ma ha)) first.same in
    let both : Same (point_add ma mb) (point_add ma neutral) =
    same_trans (sum-is_point ma mb ha hb) sum_is (same_sym (sum-is_point ma neutral ha neutral-is_point) first.point alone) in
    record { point = neutral-is_point; same = cancel-first mb neutral ma hb neutral-is_point ha both }

-- ---- a point whose multiple by n is not neutral

infinite : (p : Point) → IsPoint p → Same p neutral → p.z ≡ 0
infinite p hp s = times-zero s.ratio p.z s.below hp.z_below s.nonzero (sym s.z)

-- a number below p that is its own opposite is 0
own-opposite : (y : ℕ) → y < prime → minus 0 y ≡ y → y ≡ 0
unfolding minus minus_modulo
own-opposite y h e = omega (arith, h, e)

-- a point whose double is neutral is neutral: else it were its own opposite, and its y were 0
half-neutral : (q : Point) → IsPoint q → Same (point_double q) neutral → q.z ≡ 0
half-neutral q hq gone = elim (kind q hq) [
  | at_infinity s ↦ infinite q hq (same_sym neutral-is_point hq s)
  | in_plane x y h s ↦
      let p = plane_point x y in
      let o = plane_point x (minus 0 y) in
      let hp = plane-is_point x y h in
      let ho = plane-is_point x (minus 0 y) (opposite-plane x y h) in
      let twice : Same (point_add p p) neutral =
      same_trans (sum-is_point p p hp hp) (sum-same p q p q hp hq hp hq s s) (subst (λ (d : Point). Same d neutral) (double-same q hq) gone) in
      let none : Same (point_add p o) neutral = opposite-sum x y x (minus 0 y) h (opposite-plane x y h) refl (opposite-none y h.y_below) in
      let both : Same (point_add p p) (point_add p o) =
      same_trans (sum-is_point p p hp hp) twice (same_sym (sum-is_point p o hp ho) neutral-is_point none) in
      let turned = cancel-first p o p hp ho hp both in
      let ratio : turned.ratio ≡ 1 = times_unit turned.ratio turned.below ∙ sym turned.z in
      let own : minus 0 y ≡ y = turned.y ∙ ap (λ (r : ℕ). times r y) ratio ∙ sym (times_one y h.y_below) in
      absurd (y-some p hp (own-opposite y h.y_below own))
]

-- a multiple of a sum
sum-times : (q s : Point) (n a b : ℕ) → IsPoint q → IsSum base q s a b → IsSum base q (multiple_of n s) (n * a) (n * b)
unfolding multiple_of
sum-times q s zero a b hq h =
    let first : 0 ≡ 0 * a = omega arith in
    let second : 0 ≡ 0 * b = omega arith in
    subst (λ l. IsSum base q neutral (0 * a) l) second (subst (λ k. IsSum base q neutral k 0) first
    (sum-first base q neutral 0 base-is_point hq (multiple-neutral base)))
sum-times q s (suc n) a b hq h =
    let first : n * a + a ≡ suc n * a = omega arith in
    let second : n * b + b ≡ suc n * b = omega arith in
    subst (λ l. IsSum base q (point_add (multiple_of n s) s) (suc n * a) l) second
    (subst (λ k. IsSum base q (point_add (multiple_of n s) s) k (n * b + b)) first
    (sum-plus base q (multiple_of n s) s (n * a) (n * b) a b base-is_point hq (sum-times q s n a b hq h) h))

without-first : (q s : Point) (a b : ℕ) → IsPoint q → IsSum base q s a b → IsMultiple base neutral a → IsMultiple q s b
without-first q s a b hq h gone =
    let ha = multiple-is_point a base base-is_point in
    let hb = multiple-is_point b q hq in
    let lost = (sum-made base q neutral (multiple_of b q) a b base-is_point hq gone (multiple-itself b q hq)).same in
    let sum = sum-is_point (multiple_of a base) (multiple_of b q) ha hb in
    let alone = sum-is_point neutral (multiple_of b q) neutral-is_point hb in
    record {
      point = h.point;
      same = same_trans hb (sum-neutral_first (multiple_of b q) hb) (same_trans alone (same_sym sum alone lost) h.same);
    }

-- [i]G is [k]G only where i is k
base-below : (i k : ℕ) → i < k → k < order → Same (multiple_of i base) (multiple_of k base) → ⊥
base-below i k less low e =
    let m : ℕ = k - i in
    let whole : k ≡ i + m = omega arith in
    let hi = multiple-is_point i base base-is_point in
    let hk = multiple-is_point k base base-is_point in
    let first = multiple-of_same base (multiple_of i base) (multiple_of k base) i base-is_point (multiple-itself i base base-is_point) e in
    let second = subst (λ n. IsMultiple base (multiple_of k base) n) whole (multiple-itself k base base-is_point) in
    let none = neutral-multiples m (rest-neutral base (multiple_of k base) i m base-is_point first second) in
    let small : m < order = omega arith in
    absurd (omega (arith, sym (mod-eq_of_lt small) ∙ none))

module _ (q : Point) (hq : IsPoint q) (some : IsMultiple q neutral order → ⊥) where
  -- twice it is not neutral either
  not_twice : IsMultiple q neutral (order * 2) → ⊥
  not_twice gone =
      let u = multiple_of order q in
      let hu = multiple-is_point order q hq in
      let m : IsMultiple q (point_double u) (2 * order) = multiple-double q u order hq (multiple-itself order q hq) in
      let turned : 2 * order ≡ order * 2 = refl in
      let none = half-neutral u hu (multiples-same q (point_double u) neutral (order * 2) hq (subst (λ n. IsMultiple q (point_double u) n) turned m) gone) in
      some (multiple-of_same q u neutral order hq (multiple-itself order q hq) (neutral-same u hu none))

  few_apart : (m : ℕ) → 0 < m → m < 3 → IsMultiple q neutral (order * m) → ⊥
  few_apart zero h k gone = absurd (omega (arith, h))
  few_apart (suc zero) h k gone = some gone
  few_apart (suc (suc zero)) h k gone = not_twice gone
  few_apart (suc (suc (suc n))) h k gone = absurd (omega (arith, k))

  -- of two sums that are one point, the numbers of q are the same
  later : (t : Point) (i k j l : ℕ) → IsSum base q t i j → IsSum base q t k l → j < l → l < 3 → ⊥
  later t i k j l a b h low =
      let u = multiple_of order t in
      let first = without-first q u (order * i) (order * j) hq (sum-times q t order i j hq a) (gone i) in
      let second = without-first q u (order * k) (order * l) hq (sum-times q t order k l hq b) (gone k) in
      let m : ℕ = l - j in
      let more : l ≡ j + m = omega (arith, h) in
      let whole : order * l ≡ order * j + order * m = ap (λ n. order * n) more ∙ spread order j m in
      few_apart m (omega (arith, h)) (omega (arith, h, low))
      (rest-neutral q u (order * j) (order * m) hq first (subst (λ n. IsMultiple q u n) whole second))
    where
      spread : (n j m : ℕ) → n * (j + m) ≡ n * j + n * m
      spread n j m = omega arith

      turned : (n i : ℕ) → i * n ≡ n * i
      turned n i = omega arith

      gone : (i : ℕ) → IsMultiple base neutral (order * i)
      gone i = subst (λ n. IsMultiple base neutral n) (turned order i) (neutral-times base i order base-is_point (divided-neutral order refl))

  -- and where they are, so are those of G
  earlier : (t : Point) (i k j : ℕ) → IsSum base q t i j → IsSum base q t k j → i < k → k < order → ⊥
  earlier t i k j a b h low =
      let mi = multiple_of i base in
      let mk = multiple_of k base in
      let mj = multiple_of j q in
      let hi = multiple-is_point i base base-is_point in
      let hk = multiple-is_point k base base-is_point in
      let hj = multiple-is_point j q hq in
      let left = sum-is_point mi mj hi hj in
      let right = sum-is_point mk mj hk hj in
      base-below i k h low (cancel-second mi mk mj hi hk hj (same_trans left a.same (same_sym right b.point b.same)))

  sum_of : ℕ → Point
  sum_of n = point_add (multiple_of (n / 3) base) (multiple_of (n % 3) q)

  sum_of-is : (n : ℕ) → IsSum base q (sum_of n) (n / 3) (n % 3)
  unfolding sum_of
  sum_of-is n =
      sum-made base q (multiple_of (n / 3) base) (multiple_of (n % 3) q) (n / 3) (n % 3) base-is_point hq (multiple-itself (n / 3) base base-is_point) (multiple-itself (n % 3) q hq)

  sums-apart : (m n : ℕ) → m < n → n < 3 * order → Same (sum_of m) (sum_of n) → ⊥
  sums-apart m n h k same =
      let t = sum_of n in
      let a = sum-of_same base q (sum_of m) t (m / 3) (m % 3) base-is_point hq (sum_of-is m) same in
      let b = sum_of-is n in
      elim (cases_lt (m % 3) (n % 3)) [
        | inl less ↦ later t (m / 3) (n / 3) (m % 3) (n % 3) a b less (mod-lt n (omega arith))
        | inr more ↦ elim (cases_eq (m % 3) (n % 3)) [
          | inl equal ↦
              let turned = subst (λ j. IsSum base q t (m / 3) j) equal a in
              earlier t (m / 3) (n / 3) (n % 3) turned b (omega (arith, h, equal)) (omega (arith, k))
          | inr apart ↦ later t (n / 3) (m / 3) (n % 3) (m % 3) b a (under (n % 3) (m % 3) more apart) (mod-lt m (omega arith))
        ]
      ]
    where
      under : (a b : ℕ) → a ≤ b → b ≢ a → a < b
      under a b h e = grind (arith, h, e)

  place : ℕ → ℕ
  place n = number_of (sum_of n) (kind (sum_of n) (sum_of-is n).point)

  too_many : ⊥
  unfolding place
  too_many =
      let room : 3 * order ≤ 2 * prime + 1 = pigeon (2 * prime + 1) (3 * order) place
      (λ n h. number-below (sum_of n) (kind (sum_of n) (sum_of-is n).point))
      (λ m n h k e. sums-apart m n h k (number-same (sum_of m) (sum_of n) (sum_of-is m).point (sum_of-is n).point _ _ e)) in
      let more : 2 * prime + 1 < 3 * order = lit< tt in
      absurd (omega (arith, room, more))

-- [n]P is neutral, for each point P
pub point-order : (q : Point) → IsPoint q → IsMultiple q neutral order
point-order q hq =
    let u = multiple_of order q in
    let hu = multiple-is_point order q hq in
    elim (zero_or_not u.z) [
      | inl none ↦ multiple-of_same q u neutral order hq (multiple-itself order q hq) (neutral-same u hu none)
      | inr finite ↦
          absurd (too_many q hq (λ gone. finite (infinite u hu (multiples-same q u neutral order hq (multiple-itself order q hq) gone))))
    ]

-- a multiple of a point other than the neutral one is neutral by a multiple of n alone
pub multiple-some : (d : ℕ) (q : Point) → 0 < d → d < order → IsPoint q → q.z ≢ 0 → (multiple_of d q).z ≢ 0
multiple-some d q positive below hq some none =
    let gone = multiple-of_same q (multiple_of d q) neutral d hq (multiple-itself d q hq) (neutral-same (multiple_of d q) (multiple-is_point d q hq) none) in
    let divided = order-divides q d hq (λ same. some (infinite q hq same)) (point-order q hq) gone in
    absurd (omega (arith, positive, sym (mod-eq_of_lt below) ∙ divided))

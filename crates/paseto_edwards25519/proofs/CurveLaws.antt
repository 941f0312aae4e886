-- The laws of complete curves, for edwards25519.
use Rattle.std.proofs.Common.{◌≡◌, ℕ, ◌+◌, ◌-◌, ◌*◌, ◌%◌, ◌^◌, ◌<◌, refl, sym, ◌∙◌, ap, ap₂, subst, arith, lit<, mod-eq_of_lt, mod-lt}
use Rattle.std.proofs.Math.Nat.{mod-mod}
use Rattle.paseto_edwards_laws.specs.Group.{Affine, neutral, opposite as opposite_of}
use Rattle.paseto_edwards_laws.specs.Extended.{Extended, Stands, added as added_of, doubled as doubled_of, negated, of_affine}
use Rattle.paseto_primes.specs.Element.{minus as minus_of, plus as plus_of, times as times_of}
use Rattle.paseto_edwards_laws.specs.Multiples.{multiple_of}
use Rattle.paseto_edwards_laws.proofs.GroupLaws.{neutral-point, opposite-point, sum-associative, sum-commutative, sum-neutral, sum-opposite, sum-point}
use Rattle.paseto_primes.proofs.CongruenceLaws.{same-times}
use Rattle.paseto_primes.proofs.EulerLaws.{inverse as inverse-of}
use Rattle.paseto_edwards_laws.proofs.ExtendedLaws.{added-stands, affine-stands, affine-x, affine-y, doubled-stands, opposite-stands, times-is}
use Rattle.paseto_edwards_laws.proofs.CurveLaws.{base-point, curve}
use Rattle.paseto_primes.proofs.FieldOfEdwards25519.{is-prime}
use Rattle.paseto_edwards_laws.proofs.MultipleLaws.{neutral-sum, multiple-neutral, multiple-one, multiple-opposite, multiple-plus, multiple-point, multiple-times, multiple-sum, sum-four}
use Rattle.paseto_edwards25519.specs.Curve.{IsPoint, base_t, multiple, opposite, sum, twice_d}
use Rattle.paseto_edwards_laws.specs.Edwards25519.{base, base_x, base_y, d, prime}
use Rattle.paseto_edwards25519.specs.Extended.{IsExtended, affine, between, extended, factored, flat, half, half_of_inverse_d}
use Rattle.paseto_edwards25519.specs.Field.{minus, plus, power, times}
use Rattle.paseto_edwards25519.proofs.Formulas.{added, doubled}

-- the point of coordinates is the one that they stand for
affine-is : (q : Extended) (a : Affine) → Stands prime d q a → affine q ≡ a
unfolding affine times times_of power
affine-is q a qa = ap₂ (λ x y. at x y) (affine-x prime d curve q a qa) (affine-y prime d curve q a qa)
  where
    at : ℕ → ℕ → Affine
    at x y = record { x = x; y = y }

-- what coordinates that stand for a point are
pub record Gives (q : Extended) (a : Affine) : Type 0 where
  pub on_curve : IsExtended q
  pub is : affine q ≡ a

pub stands : (q : Extended) (a : Affine) → Stands prime d q a → Gives q a
stands q a qa =
    let e : affine q ≡ a = affine-is q a qa in
    record { on_curve = subst (λ b. Stands prime d q b) (sym e) qa; is = e }

pub added-gives : (p q : Extended) → IsExtended p → IsExtended q → Gives (added p q) (sum (affine p) (affine q))
unfolding added plus minus times added_of plus_of minus_of times_of
added-gives p q pa qa =
    stands (added p q) (sum (affine p) (affine q))
    (added-stands prime d curve p q (affine p) (affine q) pa qa)

pub doubled-gives : (x y z : ℕ) → IsExtended (flat x y z) → Gives (doubled x y z) (sum (affine (flat x y z)) (affine (flat x y z)))
unfolding doubled flat plus minus times doubled_of plus_of minus_of times_of
doubled-gives x y z pa =
    stands (doubled x y z) (sum (affine (flat x y z)) (affine (flat x y z)))
    (doubled-stands prime d curve (flat x y z) (affine (flat x y z)) pa)

pub opposite-gives : (q : Extended) → IsExtended q
    → Gives (extended (minus 0 q.x) q.y q.z (minus 0 q.t)) (opposite (affine q))
unfolding minus minus_of negated
opposite-gives q qa =
    stands (extended (minus 0 q.x) q.y q.z (minus 0 q.t)) (opposite (affine q))
    (opposite-stands prime d curve q (affine q) qa)

pub affine-gives : (x y : ℕ) → IsPoint (record { x = x; y = y }) → Gives (extended x y 1 (times x y)) (record { x = x; y = y })
unfolding times times_of of_affine
affine-gives x y point =
    stands (extended x y 1 (times x y)) (record { x = x; y = y }) (affine-stands prime d curve (record { x = x; y = y }) point)

pub neutral-is_point : IsPoint neutral
neutral-is_point = neutral-point prime d curve

-- T may be made of the other three
pub flat-gives : (x y z t : ℕ) → IsExtended (extended x y z t) → Gives (flat x y z) (affine (extended x y z t))
unfolding flat affine times times_of
flat-gives x y z t qa =
    let a : Affine = affine (extended x y z t) in
    stands (flat x y z) a record {
      point = qa.point;
      x_low = qa.x_low;
      t_low = mod-lt _ (lit< tt);
      unit = qa.unit;
      x_is = qa.x_is;
      y_is = qa.y_is;
      t_is = times-is prime (times a.x a.y) z (a.x * a.y) z (times-is prime a.x a.y a.x a.y refl refl) refl;
    }

pub identity-gives : Gives (extended 0 1 1 0) neutral
unfolding times
identity-gives = affine-gives 0 1 neutral-is_point

pub base-gives : Gives (extended base_x base_y 1 base_t) base
unfolding times
base-gives = affine-gives base_x base_y base-point

-- ---- the coordinates that a sum reads

-- Y - X of the coordinates that are kept
difference-kept : (m s : ℕ) → m < prime → s < prime → minus (times half (plus s m)) (times half (minus s m)) ≡ m
unfolding minus plus times
difference-kept m s m_low s_low = omega arith

total-kept : (m s : ℕ) → m < prime → s < prime → plus (times half (plus s m)) (times half (minus s m)) ≡ s
unfolding minus plus times
total-kept m s m_low s_low = omega arith

scaled-kept : (t k : ℕ) → k < prime → times (times t twice_d) (times half_of_inverse_d k) ≡ times t k
unfolding times times_of
scaled-kept t k _ =
    let turned : t * twice_d * (half_of_inverse_d * k) ≡ t * k * (twice_d * half_of_inverse_d) = omega arith in
    let one : (t * k * (twice_d * half_of_inverse_d)) % prime ≡ (t * k * 1) % prime = same-times prime (t * k) (t * k) (twice_d * half_of_inverse_d) 1 refl refl in
    let whole : t * k * 1 ≡ t * k = omega arith in
    sym (mod-mod (times t twice_d * times half_of_inverse_d k) prime) ∙ times-is prime (times t twice_d) (times half_of_inverse_d k) (t * twice_d) (half_of_inverse_d * k) (mod-mod (t * twice_d) prime) (mod-mod (half_of_inverse_d * k) prime)
    ∙ ap (λ n. n % prime) turned ∙ one ∙ ap (λ n. n % prime) whole

first-of : (x y : ℕ) → x < prime → y < prime → times half (minus (plus y x) (minus y x)) ≡ x
unfolding minus plus times
first-of x y x_low y_low = omega arith

second-of : (x y : ℕ) → x < prime → y < prime → times half (plus (plus y x) (minus y x)) ≡ y
unfolding minus plus times
second-of x y x_low y_low = omega arith

last-of : (t : ℕ) → t < prime → times half_of_inverse_d (times twice_d t) ≡ t
unfolding times
last-of t t_low = omega arith

pub between-of : (x y z t : ℕ) → x < prime → y < prime → t < prime
    → between (minus y x) (plus y x) z (times twice_d t) ≡ extended x y z t
unfolding between
between-of x y z t x_low y_low t_low =
    rw (first-of x y x_low y_low, second-of x y x_low y_low, last-of t t_low) refl

opposed-first : (m s : ℕ) → m < prime → s < prime → times half (minus m s) ≡ minus 0 (times half (minus s m))
unfolding minus times
opposed-first m s m_low s_low = omega arith

opposed-second : (m s : ℕ) → times half (plus m s) ≡ times half (plus s m)
unfolding plus times
opposed-second m s = omega arith

opposed-last : (k : ℕ) → k < prime → times half_of_inverse_d (minus 0 k) ≡ minus 0 (times half_of_inverse_d k)
unfolding minus times
opposed-last k k_low = omega arith

-- those of the opposite
pub opposed-gives : (m s w k : ℕ) → m < prime → s < prime → k < prime → IsExtended (between m s w k)
    → Gives (between s m w (minus 0 k)) (opposite (affine (between m s w k)))
unfolding between
opposed-gives m s w k m_low s_low k_low q_is =
    rw (opposed-first m s m_low s_low, opposed-second m s, opposed-last k k_low) (opposite-gives (between m s w k) q_is)

-- the factors of a sum
pub sum-factors : (x y z t m s w k a b c zz dd e f g h : ℕ) → m < prime → s < prime → k < prime
    → IsExtended (extended x y z t) → IsExtended (between m s w k)
    → a ≡ times (minus y x) m → b ≡ times (plus y x) s → c ≡ times t k → zz ≡ times z w → dd ≡ plus zz zz
    → e ≡ minus b a → f ≡ minus dd c → g ≡ plus dd c → h ≡ plus b a
    → Gives (factored e f g h) (sum (affine (extended x y z t)) (affine (between m s w k)))
unfolding added between
sum-factors x y z t m s w k a b c zz dd e f g h m_low s_low k_low p_is q_is a_is b_is c_is z_is d_is e_is f_is g_is h_is =
    let same : added (extended x y z t) (between m s w k) ≡ factored e f g h =
    cc (difference-kept m s m_low s_low, total-kept m s m_low s_low, scaled-kept t k k_low, a_is, b_is, c_is, z_is, d_is, e_is, f_is, g_is, h_is) in
    subst (λ q. Gives q (sum (affine (extended x y z t)) (affine (between m s w k)))) same
    (added-gives (extended x y z t) (between m s w k) p_is q_is)

pub double-factors : (x y z a b zz c h g s e f : ℕ) → IsExtended (flat x y z)
    → a ≡ times x x → b ≡ times y y → zz ≡ times z z → c ≡ plus zz zz → h ≡ plus a b → g ≡ minus a b
    → s ≡ times (plus x y) (plus x y) → e ≡ minus h s → f ≡ plus c g
    → Gives (factored e f g h) (sum (affine (flat x y z)) (affine (flat x y z)))
unfolding doubled
double-factors x y z a b zz c h g s e f p_is a_is b_is zz_is c_is h_is g_is s_is e_is f_is =
    let same : doubled x y z ≡ factored e f g h =
    cc (a_is, b_is, zz_is, c_is, h_is, g_is, s_is, e_is, f_is) in
    subst (λ q. Gives q (sum (affine (flat x y z)) (affine (flat x y z)))) same (doubled-gives x y z p_is)

-- ---- the neutral point

pub neutral-at : (x y z : ℕ) → IsExtended (flat x y z) → x ≡ 0 → y ≡ z → affine (flat x y z) ≡ neutral
unfolding flat affine times power
neutral-at x y z p_is none whole =
    let zeroes : 0 * (z ^ (prime - 2) % prime) ≡ 0 = omega arith in
    let first : (x * (z ^ (prime - 2) % prime)) % prime ≡ 0 = ap (λ n. (n * (z ^ (prime - 2) % prime)) % prime) none ∙ ap (λ n. n % prime) zeroes in
    let second : (y * (z ^ (prime - 2) % prime)) % prime ≡ 1 = ap (λ n. (n * (z ^ (prime - 2) % prime)) % prime) whole ∙ inverse-of prime z is-prime p_is.unit in
    rw (first, second) refl

pub neutral-from : (x y z : ℕ) → x < prime → y < prime → z < prime → IsExtended (flat x y z) → affine (flat x y z) ≡ neutral
    → (x ≡ 0) × (y ≡ z)
unfolding flat
neutral-from x y z x_low y_low z_low p_is e =
    let a_x : (affine (flat x y z)).x ≡ 0 = ap (λ a. a.x) e in
    let a_y : (affine (flat x y z)).y ≡ 1 = ap (λ a. a.y) e in
    let turned : 1 * z ≡ z = omega arith in
    let none : 0 * z ≡ 0 = omega arith in (
      sym (mod-eq_of_lt x_low) ∙ p_is.x_is ∙ ap (λ n. (n * z) % prime) a_x ∙ ap (λ n. n % prime) none,
      sym (mod-eq_of_lt y_low) ∙ p_is.y_is ∙ ap (λ n. (n * z) % prime) a_y ∙ ap (λ n. n % prime) turned ∙ mod-eq_of_lt z_low,
    )

pub opposite-at : (x y : ℕ) → IsPoint (record { x = x; y = y }) → IsPoint (record { x = minus 0 x; y = y })
unfolding minus opposite_of
opposite-at x y point =
    let e : 0 + (prime - x) ≡ prime - x = omega arith in
    let made : IsPoint (opposite (record { x = x; y = y })) =
    opposite-point prime d curve (record { x = x; y = y }) point in
    rw e made

-- ---- multiples

pub multiple-add : (m n : ℕ) (a : Affine) → IsPoint a → sum (multiple m a) (multiple n a) ≡ multiple (m + n) a
multiple-add m n a point = sym (multiple-plus prime d curve m n a point)

pub multiple-is_point : (n : ℕ) (a : Affine) → IsPoint a → IsPoint (multiple n a)
multiple-is_point n a point = multiple-point prime d curve n a point

pub multiple-none : (a : Affine) → multiple 0 a ≡ neutral
unfolding multiple_of
multiple-none a = refl

pub multiple-once : (a : Affine) → IsPoint a → multiple 1 a ≡ a
multiple-once a point = multiple-one prime d curve a point

pub stands-affine : (a : Affine) → IsPoint a → Stands prime d (extended a.x a.y 1 (times a.x a.y)) a
unfolding times times_of of_affine
stands-affine a point = affine-stands prime d curve a point

pub sum-is_point : (a b : Affine) → IsPoint a → IsPoint b → IsPoint (sum a b)
sum-is_point a b a_is b_is = sum-point prime d curve a b a_is b_is

pub opposite-is_point : (a : Affine) → IsPoint a → IsPoint (opposite a)
opposite-is_point a point = opposite-point prime d curve a point

pub associative : (a b c : Affine) → IsPoint a → IsPoint b → IsPoint c → sum (sum a b) c ≡ sum a (sum b c)
associative a b c a_is b_is c_is = sum-associative prime d curve a b c a_is b_is c_is

pub exchanged : (a b c e : Affine) → IsPoint a → IsPoint b → IsPoint c → IsPoint e
    → sum (sum a b) (sum c e) ≡ sum (sum a c) (sum b e)
exchanged a b c e a_is b_is c_is e_is = sum-four prime d curve a b c e a_is b_is c_is e_is

pub neutral-twice : sum neutral neutral ≡ neutral
neutral-twice = sum-neutral prime d curve neutral neutral-is_point

pub multiple-of_sum : (n : ℕ) (a b : Affine) → IsPoint a → IsPoint b → multiple n (sum a b) ≡ sum (multiple n a) (multiple n b)
multiple-of_sum n a b a_is b_is = multiple-sum prime d curve n a b a_is b_is

pub multiple-of_multiple : (m n : ℕ) (a : Affine) → IsPoint a → multiple m (multiple n a) ≡ multiple (m * n) a
multiple-of_multiple m n a point = sym (multiple-times prime d curve m n a point)

pub multiple-of_neutral : (n : ℕ) → multiple n neutral ≡ neutral
multiple-of_neutral n = multiple-neutral prime d curve n

pub neutral-right : (a : Affine) → IsPoint a → sum a neutral ≡ a
neutral-right a point = neutral-sum prime d curve a point

-- the sum of a point and its opposite
pub sum-with_opposite : (a : Affine) → IsPoint a → sum a (opposite a) ≡ neutral
sum-with_opposite a point = sum-commutative prime d a (opposite a) ∙ sum-opposite prime d curve a point

pub multiple-of_opposite : (n : ℕ) (a : Affine) → IsPoint a → multiple n (opposite a) ≡ opposite (multiple n a)
multiple-of_opposite n a point = multiple-opposite prime d curve n a point

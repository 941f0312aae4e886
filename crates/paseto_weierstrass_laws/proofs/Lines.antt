-- Lines through two points of the plane, and the third point of the curve on them, whose opposite is the sum.
use Rattle.std.proofs.Common.{◌≡◌, ◌≢◌, ◌⊎◌, ℕ, ◌-◌, ◌*◌, ◌<◌, inl, inr, List, [], ◌∷◌, refl, subst, true, lit<}
use Rattle.paseto_primes.specs.Element.{HoldElements, element}
use Rattle.paseto_primes.specs.Identity.{Equation, is_null, left_sides, right_sides}
use Rattle.paseto_primes.specs.Polynomial.{Expression, constant, difference, polynomial, product, sum}
use Rattle.paseto_primes.specs.Program.{listed}
use Rattle.paseto_primes.specs.Reduction.{Obey, reduced}
use Rattle.paseto_primes.proofs.ElementLaws.{AreListedBelow, listed-below}
use Rattle.paseto_primes.proofs.IdentityLaws.{term, total}
use Rattle.paseto_primes.proofs.ReductionLaws.{elements-by_rules}
use Rattle.paseto_weierstrass_laws.specs.Curve.{curve_b}
use Rattle.paseto_weierstrass_laws.specs.Field.{inverse, minus, plus, prime, times, triple}
use Rattle.paseto_weierstrass_laws.specs.Group.{IsPoint, Same}
use Rattle.paseto_weierstrass_laws.specs.Line.{IsChord, IsTangent, affine, line_x, line_y}
use Rattle.paseto_weierstrass_laws.specs.Point.{neutral, point_add}
use Rattle.paseto_weierstrass_laws.proofs.FieldLaws.{fermat, inverse-below, minus-below, plus-below, times-below, zero_or_not}
use Rattle.paseto_weierstrass_laws.proofs.Formulas.{ExpressionPoint, add_expr, cubic_expr, parts_of_sum, plane, summing}
use Rattle.paseto_weierstrass_laws.proofs.Identities.{equation, identity, minus_one, v0, v1, v2, v3, v4, v5}
use Rattle.paseto_weierstrass_laws.proofs.Plane.{IsPlane, plane_expr, plane_point, rule-1, rule-3}
use Rattle.paseto_weierstrass_laws.proofs.PointLaws.{neutral-same, plane-is_point, same_of_across}
use Rattle.paseto_weierstrass_laws.proofs.SumLaws.{sum-is_point}

-- k is the slope of the line through (x, y) and (v, w), by the chord where x and v differ and by the tangent where y and
-- -w do: both hold of it
pub record IsSlope (x y v w k : ℕ) : Type 0 where
  pub below : k < prime
  pub chord : times k (minus v x) ≡ minus w y
  pub tangent : times k (plus y w) ≡ minus (plus (plus (times x x) (times x v)) (times v v)) 3

-- two points of the plane are opposites, or they have a line, whose slope is determined
pub data Line (x y v w : ℕ) : Type 0 where
  opposite : x ≡ v → plus y w ≡ 0 → Line x y v w
  slope : (k : ℕ) → IsSlope x y v w k → (minus v x ≢ 0) ⊎ (plus y w ≢ 0) → Line x y v w

-- ---- the same as expressions

unfoldable pub chord_expr : Expression → Expression → Expression → Expression
chord_expr k x v = product k (difference v x)

unfoldable pub square_expr : Expression → Expression → Expression
square_expr x v = difference (sum (sum (product x x) (product x v)) (product v v)) (constant 3)

unfoldable pub line_x_expr : Expression → Expression → Expression → Expression
line_x_expr k x v = difference (difference (product k k) x) v

unfoldable pub line_y_expr : Expression → Expression → Expression → Expression → Expression
line_y_expr k x y v = difference (product k (difference x (line_x_expr k x v))) y

-- what the slope of a line says, times these
unfoldable pub by_chord : Expression → Expression → Expression → Expression → Expression → Expression → Equation
by_chord factor k x y v w = equation factor (chord_expr k x v) (difference w y)

unfoldable pub by_tangent : Expression → Expression → Expression → Expression → Expression → Expression → Equation
by_tangent factor k x y v w = equation factor (product k (sum y w)) (square_expr x v)

-- all that an identity about lines computes with
unfoldable pub lining : ℕ
unfolding summing line_x line_y chord_expr square_expr line_x_expr line_y_expr by_chord by_tangent
lining = 0

-- ---- each two points are opposites or have a line

of_difference : (a b : ℕ) → a < prime → b < prime → minus a b ≡ 0 → b ≡ a
unfolding lining
of_difference a b ha hb h =
    identity 2 (a ∷ b ∷ []) (ha, (hb, tt))
    (equation minus_one (difference v0 v1) (constant 0) ∷ []) (h, tt) v1 v0 refl

by_difference : (x y v w i : ℕ) → IsPlane x y → IsPlane v w → i < prime → times (minus v x) i ≡ 1 → IsSlope x y v w (times (minus w y) i)
unfolding lining
by_difference x y v w i h k low inv =
    let xs = y ∷ x ∷ w ∷ v ∷ i ∷ [] in
    let below : AreListedBelow prime (y ∷ x ∷ w ∷ v ∷ i ∷ []) = (h.y_below, (h.x_below, (k.y_below, (k.x_below, (low, tt))))) in
    let s = product (difference v2 v0) v4 in
    let unit = product (difference v3 v1) v4 in
    record {
      below = times-below (minus w y) i;
      chord = identity 5 xs below (equation (difference v2 v0) unit (constant 1) ∷ []) (inv, tt) (chord_expr s v1 v3) (difference v2 v0) refl;
      tangent = identity 5 xs below
          (equation (square_expr v1 v3) unit (constant 1)
          ∷ equation v4 (product (product v2 v2) (constant 1)) (cubic_expr v3 (constant 1))
          ∷ equation (product minus_one v4) (product (product v0 v0) (constant 1)) (cubic_expr v1 (constant 1))
          ∷ []) (inv, (k.on_curve, (h.on_curve, tt)))
          (product s (sum v0 v2)) (square_expr v1 v3) refl;
    }

by_sum : (x y v w i : ℕ) → IsPlane x y → IsPlane v w → i < prime → times (plus y w) i ≡ 1
    → IsSlope x y v w (times (minus (plus (plus (times x x) (times x v)) (times v v)) 3) i)
unfolding lining
by_sum x y v w i h k low inv =
    let xs = y ∷ x ∷ w ∷ v ∷ i ∷ [] in
    let below : AreListedBelow prime (y ∷ x ∷ w ∷ v ∷ i ∷ []) = (h.y_below, (h.x_below, (k.y_below, (k.x_below, (low, tt))))) in
    let s = product (square_expr v1 v3) v4 in
    let unit = product (sum v0 v2) v4 in
    record {
      below = times-below _ i;
      chord = identity 5 xs below
          (equation (difference v2 v0) unit (constant 1)
          ∷ equation (product minus_one v4) (product (product v2 v2) (constant 1)) (cubic_expr v3 (constant 1))
          ∷ equation v4 (product (product v0 v0) (constant 1)) (cubic_expr v1 (constant 1))
          ∷ []) (inv, (k.on_curve, (h.on_curve, tt)))
          (chord_expr s v1 v3) (difference v2 v0) refl;
      tangent = identity 5 xs below (equation (square_expr v1 v3) unit (constant 1) ∷ []) (inv, tt) (product s (sum v0 v2)) (square_expr v1 v3) refl;
    }

pub line : (x y v w : ℕ) → IsPlane x y → IsPlane v w → Line x y v w
line x y v w h k = elim (zero_or_not (minus v x)) [
  | inl same ↦ elim (zero_or_not (plus y w)) [
    | inl none ↦ opposite (of_difference v x k.x_below h.x_below same) none
    | inr some ↦
        slope _ (by_sum x y v w (inverse (plus y w)) h k (inverse-below (plus y w)) (fermat (plus y w) (plus-below y w) some)) (inr some)
  ]
  | inr some ↦
      slope _ (by_difference x y v w (inverse (minus v x)) h k (inverse-below (minus v x)) (fermat (minus v x) (minus-below v x) some)) (inl some)
]

-- ---- sums by lines

unfoldable x_by_chord : Expression
x_by_chord =
    total (term (prime - 6) (2 ∷ 4 ∷ [])
    ∷ term 3 (2 ∷ 3 ∷ 3 ∷ 4 ∷ [])
    ∷ term 3 (2 ∷ 2 ∷ 3 ∷ [])
    ∷ term 3 (1 ∷ 2 ∷ 3 ∷ 4 ∷ [])
    ∷ term 3 (1 ∷ 2 ∷ 2 ∷ [])
    ∷ term (prime - 3) (0 ∷ 4 ∷ [])
    ∷ term 3 (0 ∷ 3 ∷ 3 ∷ 4 ∷ [])
    ∷ term 5 (0 ∷ 2 ∷ 3 ∷ [])
    ∷ term 1 (0 ∷ 1 ∷ 2 ∷ [])
    ∷ [])

unfoldable x_by_tangent : Expression
x_by_tangent =
    total (term 3 (2 ∷ [])
    ∷ term (prime - 3) (2 ∷ 3 ∷ 3 ∷ [])
    ∷ term (prime - 3) (2 ∷ 2 ∷ 4 ∷ [])
    ∷ term 3 (0 ∷ [])
    ∷ term (prime - 3) (0 ∷ 3 ∷ 3 ∷ [])
    ∷ term (prime - 1) (0 ∷ 2 ∷ 4 ∷ [])
    ∷ [])

unfoldable y_by_chord : Expression
y_by_chord =
    total (term (9 * curve_b) (2 ∷ [])
    ∷ term (3 * curve_b) (0 ∷ [])
    ∷ term (prime - 9) (2 ∷ 3 ∷ [])
    ∷ term (prime - 9) (1 ∷ 2 ∷ [])
    ∷ term (prime - 6) (0 ∷ 3 ∷ [])
    ∷ term 3 (0 ∷ 2 ∷ 2 ∷ [])
    ∷ term (prime - 3) (0 ∷ 1 ∷ [])
    ∷ term 3 (0 ∷ 1 ∷ 3 ∷ 3 ∷ [])
    ∷ term 1 (0 ∷ 0 ∷ 2 ∷ [])
    ∷ [])

unfoldable y_by_tangent : Expression
y_by_tangent =
    total (term ((prime - 9) * curve_b) (3 ∷ [])
    ∷ term 9 []
    ∷ term 9 (3 ∷ 3 ∷ [])
    ∷ term (prime - 3) (0 ∷ 2 ∷ 3 ∷ [])
    ∷ [])

unfoldable curve_by_chord : Expression
curve_by_chord =
    total (term 1 (4 ∷ 4 ∷ 4 ∷ [])
    ∷ term (prime - 1) (3 ∷ 4 ∷ [])
    ∷ term 2 (2 ∷ [])
    ∷ term (prime - 2) (1 ∷ 4 ∷ [])
    ∷ term 2 (0 ∷ [])
    ∷ [])

unfoldable curve_by_tangent : Expression
curve_by_tangent =
    total (term 1 (4 ∷ 4 ∷ [])
    ∷ term (prime - 3) (3 ∷ [])
    ∷ [])

-- elements are equal by equations, for two points of the plane and a number
five-obey : (x y v w k : ℕ) → IsPlane x y → IsPlane v w → AreListedBelow prime (y ∷ x ∷ w ∷ v ∷ k ∷ [])
    → Obey plane 5 prime (listed (y ∷ x ∷ w ∷ v ∷ k ∷ []))
unfolding summing
five-obey x y v w k h l below =
    let numbers = listed (y ∷ x ∷ w ∷ v ∷ k ∷ []) in
    let low = listed-below prime (y ∷ x ∷ w ∷ v ∷ k ∷ []) (lit< tt) below in
    (tt, (rule-3 numbers low l, (tt, (rule-1 numbers low h, (tt, tt)))))

identity-in_plane : (n : ℕ) (xs : List ℕ) → AreListedBelow prime xs → Obey plane n prime (listed xs)
    → (es : List Equation) → HoldElements n prime (listed xs) es → (a b : Expression)
    → is_null n prime (reduced plane n prime (polynomial n prime (difference (sum a (right_sides es)) (sum b (left_sides es))))) ≡ true
    → element n prime (listed xs) a ≡ element n prime (listed xs) b
identity-in_plane n xs below obey es =
    elements-by_rules plane n prime (listed xs) (lit< tt) (listed-below prime xs (lit< tt) below) obey es

five-below : (x y v w k : ℕ) → IsPlane x y → IsPlane v w → IsSlope x y v w k → AreListedBelow prime (y ∷ x ∷ w ∷ v ∷ k ∷ [])
five-below x y v w k h l s = (h.y_below, (h.x_below, (l.y_below, (l.x_below, (s.below, tt)))))

summed : ExpressionPoint
summed = add_expr (plane_expr 0) (plane_expr 2)

summed-x : (x y v w k : ℕ) → IsPlane x y → IsPlane v w → IsSlope x y v w k
    → (let s = point_add (plane_point x y) (plane_point v w) in times s.x 1 ≡ times (line_x k x v) s.z)
unfolding lining summed x_by_chord x_by_tangent term total
summed-x x y v w k h l s =
    let below = five-below x y v w k h l s in
    identity-in_plane 5 (y ∷ x ∷ w ∷ v ∷ k ∷ []) below (five-obey x y v w k h l below)
    (by_chord x_by_chord v4 v1 v0 v3 v2 ∷ by_tangent x_by_tangent v4 v1 v0 v3 v2 ∷ []) (s.chord, (s.tangent, tt))
    (product summed.x (constant 1)) (product (line_x_expr v4 v1 v3) summed.z) refl

summed-y : (x y v w k : ℕ) → IsPlane x y → IsPlane v w → IsSlope x y v w k
    → (let s = point_add (plane_point x y) (plane_point v w) in
    times s.x 1 ≡ times (line_x k x v) s.z → times s.y 1 ≡ times (line_y k x y v) s.z)
unfolding lining summed y_by_chord y_by_tangent term total
summed-y x y v w k h l s e =
    let below = five-below x y v w k h l s in
    identity-in_plane 5 (y ∷ x ∷ w ∷ v ∷ k ∷ []) below (five-obey x y v w k h l below)
    (by_chord y_by_chord v4 v1 v0 v3 v2 ∷ by_tangent y_by_tangent v4 v1 v0 v3 v2
    ∷ equation (product minus_one v4) (product summed.x (constant 1)) (product (line_x_expr v4 v1 v3) summed.z)
    ∷ []) (s.chord, (s.tangent, (e, tt)))
    (product summed.y (constant 1)) (product (line_y_expr v4 v1 v0 v3) summed.z) refl

-- the sum by a line is a point of the plane
pub line-is_plane : (x y v w k : ℕ) → IsPlane x y → IsPlane v w → IsSlope x y v w k → IsPlane (line_x k x v) (line_y k x y v)
unfolding lining curve_by_chord curve_by_tangent term total
line-is_plane x y v w k h l s =
    let below = five-below x y v w k h l s in
    let c = line_x_expr v4 v1 v3 in
    let d = line_y_expr v4 v1 v0 v3 in
    record {
      x_below = minus-below _ _;
      y_below = minus-below _ _;
      on_curve = identity-in_plane 5 (y ∷ x ∷ w ∷ v ∷ k ∷ []) below (five-obey x y v w k h l below)
          (by_chord curve_by_chord v4 v1 v0 v3 v2 ∷ by_tangent curve_by_tangent v4 v1 v0 v3 v2 ∷ []) (s.chord, (s.tangent, tt))
          (product (product d d) (constant 1)) (cubic_expr c (constant 1)) refl;
    }

-- and the sum by the complete formulas
pub line-sum : (x y v w k : ℕ) → IsPlane x y → IsPlane v w → IsSlope x y v w k
    → Same (point_add (plane_point x y) (plane_point v w)) (plane_point (line_x k x v) (line_y k x y v))
line-sum x y v w k h l s =
    let p = plane_point x y in
    let q = plane_point v w in
    let e = summed-x x y v w k h l s in
    same_of_across (point_add p q) (plane_point (line_x k x v) (line_y k x y v))
    (sum-is_point p q (plane-is_point x y h) (plane-is_point v w l))
    (plane-is_point (line_x k x v) (line_y k x y v) (line-is_plane x y v w k h l s))
    e (summed-y x y v w k h l s e)

opposite-z : (x y v w : ℕ) → IsPlane x y → IsPlane v w → x ≡ v → plus y w ≡ 0 → (point_add (plane_point x y) (plane_point v w)).z ≡ 0
unfolding lining summed
opposite-z x y v w h l e f =
    let k = parts_of_sum (plane_expr 0) (plane_expr 2) in
    identity 4 (y ∷ x ∷ w ∷ v ∷ []) (h.y_below, (h.x_below, (l.y_below, (l.x_below, tt))))
    (equation (product minus_one (product v0 k.outer)) v1 v3
    ∷ equation (sum k.low (product v1 k.outer)) (sum v0 v2) (constant 0)
    ∷ []) (e, (f, tt)) summed.z (constant 0) refl

-- the sum of opposites is neutral
pub opposite-sum : (x y v w : ℕ) → IsPlane x y → IsPlane v w → x ≡ v → plus y w ≡ 0
    → Same (point_add (plane_point x y) (plane_point v w)) neutral
opposite-sum x y v w h l e f =
    let p = plane_point x y in
    let q = plane_point v w in
    neutral-same (point_add p q) (sum-is_point p q (plane-is_point x y h) (plane-is_point v w l)) (opposite-z x y v w h l e f)

-- ---- the same line from its other end

pub record Swapped (x y v w k : ℕ) : Type 0 where
  pub slope : IsSlope v w x y k
  pub same_x : line_x k v x ≡ line_x k x v
  pub same_y : line_y k v w x ≡ line_y k x y v

pub swapped : (x y v w k : ℕ) → IsPlane x y → IsPlane v w → IsSlope x y v w k → Swapped x y v w k
unfolding lining
swapped x y v w k h l s =
    let xs = y ∷ x ∷ w ∷ v ∷ k ∷ [] in
    let below = five-below x y v w k h l s in
    record {
      slope = record {
        below = s.below;
        chord = identity 5 xs below (by_chord minus_one v4 v1 v0 v3 v2 ∷ []) (s.chord, tt) (chord_expr v4 v3 v1) (difference v0 v2) refl;
        tangent = identity 5 xs below (by_tangent (constant 1) v4 v1 v0 v3 v2 ∷ []) (s.tangent, tt)
            (product v4 (sum v2 v0)) (square_expr v3 v1) refl;
      };
      same_x = identity 5 xs below [] tt (line_x_expr v4 v3 v1) (line_x_expr v4 v1 v3) refl;
      same_y = identity 5 xs below (by_chord (constant 1) v4 v1 v0 v3 v2 ∷ []) (s.chord, tt) (line_y_expr v4 v3 v2 v1) (line_y_expr v4 v1 v0 v3) refl;
    }

pub plus-swapped : (a b : ℕ) → a < prime → b < prime → plus a b ≡ 0 → plus b a ≡ 0
unfolding lining
plus-swapped a b ha hb e =
    identity 2 (a ∷ b ∷ []) (ha, (hb, tt)) (equation (constant 1) (sum v0 v1) (constant 0) ∷ []) (e, tt) (sum v1 v0) (constant 0) refl

-- the opposite of the opposite
pub opposite-twice : (a b c : ℕ) → a < prime → b < prime → c < prime → plus a b ≡ 0 → plus b c ≡ 0 → a ≡ c
unfolding lining
opposite-twice a b c ha hb hc e f =
    identity 3 (a ∷ b ∷ c ∷ []) (ha, (hb, (hc, tt)))
    (equation (constant 1) (sum v0 v1) (constant 0) ∷ equation minus_one (sum v1 v2) (constant 0) ∷ []) (e, (f, tt)) v0 v2 refl

pub same_plane : (x y v w : ℕ) → x ≡ v → y ≡ w → plane_point x y ≡ plane_point v w
same_plane x y v w e f = λ i. record { x = e i; y = f i; z = 1 }

-- ---- by the chord, and by the tangent

pub plane-of : (x y : ℕ) → IsPoint (affine x y) → IsPlane x y
plane-of x y h = record { x_below = h.x_below; y_below = h.y_below; on_curve = h.on_curve }

-- the slope of a chord is the difference of y times what is inverse to that of x
chord-is : (x y v w k i : ℕ) → IsPlane x y → IsPlane v w → IsChord x y v w k → i < prime → times (minus v x) i ≡ 1
    → times (minus w y) i ≡ k
unfolding lining
chord-is x y v w k i h l c low inv =
    identity 6 (y ∷ x ∷ w ∷ v ∷ i ∷ k ∷ []) (h.y_below, (h.x_below, (l.y_below, (l.x_below, (low, (c.below, tt))))))
    (equation v5 (product (difference v3 v1) v4) (constant 1)
    ∷ equation (product minus_one v4) (product v5 (difference v3 v1)) (difference v2 v0)
    ∷ []) (inv, (c.slope, tt))
    (product (difference v2 v0) v4) v5 refl

chord-slope : (x y v w k : ℕ) → IsPlane x y → IsPlane v w → IsChord x y v w k → IsSlope x y v w k
chord-slope x y v w k h l c =
    let d = minus v x in
    let some : d ≢ 0 = λ none. c.apart (of_difference v x l.x_below h.x_below none) in
    let inv = fermat d (minus-below v x) some in
    subst (IsSlope x y v w) (chord-is x y v w k (inverse d) h l c (inverse-below d) inv)
    (by_difference x y v w (inverse d) h l (inverse-below d) inv)

pub chord-sum : (x y v w k : ℕ) → IsPoint (affine x y) → IsPoint (affine v w) → IsChord x y v w k
    → Same (point_add (affine x y) (affine v w)) (affine (line_x k x v) (line_y k x y v))
chord-sum x y v w k hp hq c =
    let h = plane-of x y hp in
    let l = plane-of v w hq in
    line-sum x y v w k h l (chord-slope x y v w k h l c)

tangent-slope : (x y k : ℕ) → IsPlane x y → IsTangent x y k → IsSlope x y x y k
unfolding lining triple
tangent-slope x y k h t = record {
  below = t.below;
  chord = identity 3 (y ∷ x ∷ k ∷ []) (h.y_below, (h.x_below, (t.below, tt))) [] tt (chord_expr v2 v1 v1) (difference v0 v0) refl;
  tangent = t.slope;
}

pub tangent-sum : (x y k : ℕ) → IsPoint (affine x y) → IsTangent x y k
    → Same (point_add (affine x y) (affine x y)) (affine (line_x k x x) (line_y k x y x))
tangent-sum x y k hp t =
    let h = plane-of x y hp in
    line-sum x y x y k h h (tangent-slope x y k h t)

-- The two ways to add three points of the plane, by lines: P = (x1, y1), Q = (x2, y2), R = (x3, y3), where k is the slope
-- of the line through P and Q, l through Q and R, n through P + Q and R, and r through P and Q + R.
use Rattle.std.proofs.Common.{◌≡◌, ◌≢◌, ◌⊎◌, ℕ, ◌<◌, inl, inr, List, [], ◌∷◌, refl, sym}
use Rattle.paseto_primes.specs.Polynomial.{Expression, constant, difference, product, sum, variable}
use Rattle.paseto_primes.proofs.ElementLaws.{AreListedBelow}
use Rattle.paseto_weierstrass_laws.specs.Field.{minus, plus, prime, times}
use Rattle.paseto_weierstrass_laws.specs.Line.{line_x, line_y}
use Rattle.paseto_weierstrass_laws.proofs.FieldLaws.{minus-below, plus-below, times-zero}
use Rattle.paseto_weierstrass_laws.proofs.Identities.{equation, identity, minus_one, v0, v1, v2, v3, v4, v5, v6}
use Rattle.paseto_weierstrass_laws.proofs.Lines.{IsSlope, by_chord, by_tangent, line_x_expr, line_y_expr, lining, square_expr}

abbrev pub v7 : Expression
v7 = variable 7

abbrev pub v8 : Expression
v8 = variable 8

abbrev pub v9 : Expression
v9 = variable 9

-- three points of the plane and two slopes, below p
pub record Three (x1 y1 x2 y2 x3 y3 k l : ℕ) : Type 0 where
  pub y1_below : y1 < prime
  pub x1_below : x1 < prime
  pub y2_below : y2 < prime
  pub x2_below : x2 < prime
  pub y3_below : y3 < prime
  pub x3_below : x3 < prime
  pub first : IsSlope x1 y1 x2 y2 k
  pub second : IsSlope x2 y2 x3 y3 l

abbrev listed_eight : (x1 y1 x2 y2 x3 y3 k l : ℕ) → List ℕ → List ℕ
listed_eight x1 y1 x2 y2 x3 y3 k l xs = y1 ∷ x1 ∷ y2 ∷ x2 ∷ y3 ∷ x3 ∷ k ∷ l ∷ xs

eight-below : (x1 y1 x2 y2 x3 y3 k l : ℕ) (xs : List ℕ) → Three x1 y1 x2 y2 x3 y3 k l → AreListedBelow prime xs
    → AreListedBelow prime (listed_eight x1 y1 x2 y2 x3 y3 k l xs)
eight-below x1 y1 x2 y2 x3 y3 k l xs h rest =
    (h.y1_below, (h.x1_below, (h.y2_below, (h.x2_below, (h.y3_below, (h.x3_below, (h.first.below, (h.second.below, rest))))))))

-- the sums of the first two and of the last two
left_x : Expression
left_x = line_x_expr v6 v1 v3

left_y : Expression
left_y = line_y_expr v6 v1 v0 v3

right_x : Expression
right_x = line_x_expr v7 v3 v5

right_y : Expression
right_y = line_y_expr v7 v3 v2 v5

-- (l - k) * (r + l) = x3 - x1, and (l - k) * (n + k) = x3 - x1
by_right : Expression → Expression
by_right r = difference (product (difference v7 v6) (sum r v7)) (difference v5 v1)

by_left : Expression → Expression
by_left n = difference (product (difference v7 v6) (sum n v6)) (difference v5 v1)

-- what a number is multiplied by that is not 0
either-factor : (a b c : ℕ) → a < prime → b < prime → c < prime → (a ≢ 0) ⊎ (b ≢ 0) → times a c ≡ 0 → times b c ≡ 0 → c ≡ 0
either-factor a b c ha hb hc some e f = elim some [
  | inl na ↦ times-zero a c ha hc na e
  | inr nb ↦ times-zero b c hb hc nb f
]

pub right-slope : (x1 y1 x2 y2 x3 y3 k l r : ℕ) → Three x1 y1 x2 y2 x3 y3 k l
    → (let tx = line_x l x2 x3 in let ty = line_y l x2 y2 x3 in IsSlope x1 y1 tx ty r → (minus tx x1 ≢ 0) ⊎ (plus y1 ty ≢ 0)
    → minus (times (minus l k) (plus r l)) (minus x3 x1) ≡ 0)
unfolding lining right_x right_y by_right
right-slope x1 y1 x2 y2 x3 y3 k l r h s some =
    let tx = line_x l x2 x3 in
    let ty = line_y l x2 y2 x3 in
    let xs = listed_eight x1 y1 x2 y2 x3 y3 k l (r ∷ []) in
    let below = eight-below x1 y1 x2 y2 x3 y3 k l (r ∷ []) h (s.below, tt) in
    let back = difference v7 v6 in
    either-factor (minus tx x1) (plus y1 ty) (minus (times (minus l k) (plus r l)) (minus x3 x1))
    (minus-below tx x1) (plus-below y1 ty) (minus-below _ _) some
    (identity 9 xs below
    (by_chord (product minus_one v7) v6 v1 v0 v3 v2
    ∷ by_tangent (constant 1) v6 v1 v0 v3 v2
    ∷ by_chord (product minus_one v7) v7 v3 v2 v5 v4
    ∷ by_tangent minus_one v7 v3 v2 v5 v4
    ∷ by_chord back v8 v1 v0 right_x right_y
    ∷ []) (h.first.chord, (h.first.tangent, (h.second.chord, (h.second.tangent, (s.chord, tt)))))
    (product (difference right_x v1) (by_right v8)) (constant 0) refl)
    (identity 9 xs below
    (by_chord (sum (difference (product v7 v7) v5) v1) v6 v1 v0 v3 v2
    ∷ by_tangent (product minus_one v7) v6 v1 v0 v3 v2
    ∷ by_chord (product v6 v7) v7 v3 v2 v5 v4
    ∷ by_tangent v6 v7 v3 v2 v5 v4
    ∷ by_tangent back v8 v1 v0 right_x right_y
    ∷ []) (h.first.chord, (h.first.tangent, (h.second.chord, (h.second.tangent, (s.tangent, tt)))))
    (product (sum v0 right_y) (by_right v8)) (constant 0) refl)

pub left-slope : (x1 y1 x2 y2 x3 y3 k l n : ℕ) → Three x1 y1 x2 y2 x3 y3 k l
    → (let sx = line_x k x1 x2 in let sy = line_y k x1 y1 x2 in IsSlope sx sy x3 y3 n → (minus x3 sx ≢ 0) ⊎ (plus sy y3 ≢ 0)
    → minus (times (minus l k) (plus n k)) (minus x3 x1) ≡ 0)
unfolding lining left_x left_y by_left
left-slope x1 y1 x2 y2 x3 y3 k l n h s some =
    let sx = line_x k x1 x2 in
    let sy = line_y k x1 y1 x2 in
    let xs = listed_eight x1 y1 x2 y2 x3 y3 k l (n ∷ []) in
    let below = eight-below x1 y1 x2 y2 x3 y3 k l (n ∷ []) h (s.below, tt) in
    let back = difference v7 v6 in
    either-factor (minus x3 sx) (plus sy y3) (minus (times (minus l k) (plus n k)) (minus x3 x1))
    (minus-below x3 sx) (plus-below sy y3) (minus-below _ _) some
    (identity 9 xs below
    (by_chord v7 v6 v1 v0 v3 v2
    ∷ by_tangent minus_one v6 v1 v0 v3 v2
    ∷ by_chord v6 v7 v3 v2 v5 v4
    ∷ by_tangent (constant 1) v7 v3 v2 v5 v4
    ∷ by_chord back v8 left_x left_y v5 v4
    ∷ []) (h.first.chord, (h.first.tangent, (h.second.chord, (h.second.tangent, (s.chord, tt)))))
    (product (difference v5 left_x) (by_left v8)) (constant 0) refl)
    (identity 9 xs below
    (by_chord (sum (product v6 v6) (difference v5 v1)) v6 v1 v0 v3 v2
    ∷ by_tangent (product minus_one v7) v6 v1 v0 v3 v2
    ∷ by_chord (sum (product v6 v6) (difference v5 v1)) v7 v3 v2 v5 v4
    ∷ by_tangent v6 v7 v3 v2 v5 v4
    ∷ by_tangent back v8 left_x left_y v5 v4
    ∷ []) (h.first.chord, (h.first.tangent, (h.second.chord, (h.second.tangent, (s.tangent, tt)))))
    (product (sum left_y v4) (by_left v8)) (constant 0) refl)

-- n + k = r + l, where k and l differ
slopes-sum : (x1 x3 k l n r : ℕ) → AreListedBelow prime (x1 ∷ x3 ∷ k ∷ l ∷ n ∷ r ∷ []) → minus l k ≢ 0
    → minus (times (minus l k) (plus r l)) (minus x3 x1) ≡ 0 → minus (times (minus l k) (plus n k)) (minus x3 x1) ≡ 0
    → minus (plus n k) (plus r l) ≡ 0
unfolding lining
slopes-sum x1 x3 k l n r below some e f =
    let there = difference v1 v0 in
    let back = difference v3 v2 in
    times-zero (minus l k) (minus (plus n k) (plus r l)) (minus-below l k) (minus-below _ _) some
    (identity 6 (x1 ∷ x3 ∷ k ∷ l ∷ n ∷ r ∷ []) below
    (equation minus_one (difference (product back (sum v5 v3)) there) (constant 0)
    ∷ equation (constant 1) (difference (product back (sum v4 v2)) there) (constant 0)
    ∷ []) (e, (f, tt)) (product back (difference (sum v4 v2) (sum v5 v3))) (constant 0) refl)

-- the two sums of three, where n + k = r + l
pub record BothSums (x1 y1 x2 y2 x3 y3 k l n r : ℕ) : Type 0 where
  pub x : line_x n (line_x k x1 x2) x3 ≡ line_x r x1 (line_x l x2 x3)
  pub y : line_y n (line_x k x1 x2) (line_y k x1 y1 x2) x3 ≡ line_y r x1 y1 (line_x l x2 x3)

both_sums : (x1 y1 x2 y2 x3 y3 k l n r : ℕ) → Three x1 y1 x2 y2 x3 y3 k l → r < prime
    → IsSlope (line_x k x1 x2) (line_y k x1 y1 x2) x3 y3 n
    → minus (times (minus l k) (plus r l)) (minus x3 x1) ≡ 0 → minus (plus n k) (plus r l) ≡ 0
    → BothSums x1 y1 x2 y2 x3 y3 k l n r
unfolding lining left_x left_y right_x right_y by_right
both_sums x1 y1 x2 y2 x3 y3 k l n r h r_low s e f =
    let xs = listed_eight x1 y1 x2 y2 x3 y3 k l (n ∷ r ∷ []) in
    let below = eight-below x1 y1 x2 y2 x3 y3 k l (n ∷ r ∷ []) h (s.below, (r_low, tt)) in
    let slopes = difference (sum v8 v6) (sum v9 v7) in
    record {
      x = identity 10 xs below
          (equation (constant 2) (by_right v9) (constant 0)
          ∷ equation (difference (sum (sum v9 v8) v7) v6) slopes (constant 0)
          ∷ []) (e, (f, tt))
          (line_x_expr v8 left_x v5) (line_x_expr v9 v1 right_x) refl;
      y = identity 10 xs below
          (equation (difference v7 (sum v9 (sum v8 v8))) (by_right v9) (constant 0)
          ∷ equation (difference (sum (sum (product v7 v7) (product v6 v8)) v1) (sum (sum (product v9 v9) (product v8 (sum v9 (sum v8 v7)))) v3)) slopes (constant 0)
          ∷ by_chord (constant 1) v6 v1 v0 v3 v2
          ∷ by_chord (constant 1) v7 v3 v2 v5 v4
          ∷ by_chord minus_one v8 left_x left_y v5 v4
          ∷ []) (e, (f, (h.first.chord, (h.second.chord, (s.chord, tt)))))
          (line_y_expr v8 left_x left_y v5) (line_y_expr v9 v1 v0 right_x) refl;
    }

pub both-sums : (x1 y1 x2 y2 x3 y3 k l n r : ℕ) → Three x1 y1 x2 y2 x3 y3 k l
    → (let sx = line_x k x1 x2 in let sy = line_y k x1 y1 x2 in let tx = line_x l x2 x3 in let ty = line_y l x2 y2 x3 in
    IsSlope sx sy x3 y3 n → (minus x3 sx ≢ 0) ⊎ (plus sy y3 ≢ 0) → IsSlope x1 y1 tx ty r → (minus tx x1 ≢ 0) ⊎ (plus y1 ty ≢ 0)
    → minus l k ≢ 0 → BothSums x1 y1 x2 y2 x3 y3 k l n r)
both-sums x1 y1 x2 y2 x3 y3 k l n r h s some_s t some_t apart =
    let e = right-slope x1 y1 x2 y2 x3 y3 k l r h t some_t in
    let f = left-slope x1 y1 x2 y2 x3 y3 k l n h s some_s in
    both_sums x1 y1 x2 y2 x3 y3 k l n r h t.below s e
    (slopes-sum x1 x3 k l n r (h.x1_below, (h.x3_below, (h.first.below, (h.second.below, (s.below, (t.below, tt)))))) apart e f)

-- where k and l are equal, P and R are
pub record Equal (x1 y1 x3 y3 : ℕ) : Type 0 where
  pub x : x3 ≡ x1
  pub y : y3 ≡ y1

pub same-slopes : (x1 y1 x2 y2 x3 y3 k l r : ℕ) → Three x1 y1 x2 y2 x3 y3 k l → r < prime
    → minus (times (minus l k) (plus r l)) (minus x3 x1) ≡ 0 → minus l k ≡ 0 → Equal x1 y1 x3 y3
unfolding lining by_right
same-slopes x1 y1 x2 y2 x3 y3 k l r h low e f =
    let xs = listed_eight x1 y1 x2 y2 x3 y3 k l (r ∷ []) in
    let below = eight-below x1 y1 x2 y2 x3 y3 k l (r ∷ []) h (low, tt) in
    let same = identity 9 xs below
    (equation minus_one (by_right v8) (constant 0) ∷ equation (sum v8 v7) (difference v7 v6) (constant 0) ∷ []) (e, (f, tt)) v5 v1 refl in
    record {
      x = same;
      y = identity 9 xs below
          (by_chord minus_one v6 v1 v0 v3 v2
          ∷ by_chord minus_one v7 v3 v2 v5 v4
          ∷ equation (difference v1 v3) (difference v7 v6) (constant 0)
          ∷ equation v7 v5 v1
          ∷ []) (h.first.chord, (h.second.chord, (f, (same, tt)))) v4 v0 refl;
    }

-- ---- the line through Q and R, where P and Q are opposites: -P, or Q, and R are on it

pub record Mirrored (x1 y1 x2 y2 x3 y3 l : ℕ) : Type 0 where
  pub slope : IsSlope x1 y1 (line_x l x2 x3) (line_y l x2 y2 x3) (minus 0 l)
  pub x : line_x (minus 0 l) x1 (line_x l x2 x3) ≡ x3
  pub y : line_y (minus 0 l) x1 y1 (line_x l x2 x3) ≡ y3

pub mirrored : (x1 y1 x2 y2 x3 y3 l : ℕ) → AreListedBelow prime (y1 ∷ x1 ∷ y2 ∷ x2 ∷ y3 ∷ x3 ∷ l ∷ [])
    → IsSlope x2 y2 x3 y3 l → x1 ≡ x2 → plus y1 y2 ≡ 0 → Mirrored x1 y1 x2 y2 x3 y3 l
unfolding lining
mirrored x1 y1 x2 y2 x3 y3 l below s e f =
    let xs = y1 ∷ x1 ∷ y2 ∷ x2 ∷ y3 ∷ x3 ∷ l ∷ [] in
    let opposite = difference (constant 0) v6 in
    let tx = line_x_expr v6 v3 v5 in
    let ty = line_y_expr v6 v3 v2 v5 in
    record {
      slope = record {
        below = minus-below 0 l;
        chord = identity 7 xs below (equation v6 v1 v3 ∷ equation (constant 1) (sum v0 v2) (constant 0) ∷ []) (e, (f, tt))
            (product opposite (difference tx v1)) (difference ty v0) refl;
        tangent = identity 7 xs below
            (equation (difference (difference v5 v1) (product v6 v6)) v1 v3
            ∷ equation (product minus_one v6) (sum v0 v2) (constant 0)
            ∷ by_chord v6 v6 v3 v2 v5 v4
            ∷ by_tangent (constant 1) v6 v3 v2 v5 v4
            ∷ []) (e, (f, (s.chord, (s.tangent, tt))))
            (product opposite (sum v0 ty)) (square_expr v1 tx) refl;
      };
      x = identity 7 xs below (equation minus_one v1 v3 ∷ []) (e, tt) (line_x_expr opposite v1 tx) v5 refl;
      y = identity 7 xs below
          (equation (product minus_one (sum v6 v6)) v1 v3
          ∷ equation minus_one (sum v0 v2) (constant 0)
          ∷ by_chord (constant 1) v6 v3 v2 v5 v4
          ∷ []) (e, (f, (s.chord, tt))) (line_y_expr opposite v1 v0 tx) v4 refl;
    }

-- ---- R on the line through P and Q: Q + R is -P

pub record OnLine (x1 y1 x2 y2 x3 y3 k : ℕ) : Type 0 where
  pub slope : IsSlope x2 y2 x3 y3 k
  pub x : x1 ≡ line_x k x2 x3
  pub y : plus y1 (line_y k x2 y2 x3) ≡ 0

pub on_line : (x1 y1 x2 y2 x3 y3 k : ℕ) → AreListedBelow prime (y1 ∷ x1 ∷ y2 ∷ x2 ∷ y3 ∷ x3 ∷ k ∷ [])
    → IsSlope x1 y1 x2 y2 k → line_x k x1 x2 ≡ x3 → plus (line_y k x1 y1 x2) y3 ≡ 0 → OnLine x1 y1 x2 y2 x3 y3 k
unfolding lining
on_line x1 y1 x2 y2 x3 y3 k below s e f =
    let xs = y1 ∷ x1 ∷ y2 ∷ x2 ∷ y3 ∷ x3 ∷ k ∷ [] in
    let sx = line_x_expr v6 v1 v3 in
    let sy = line_y_expr v6 v1 v0 v3 in
    record {
      slope = record {
        below = s.below;
        chord = identity 7 xs below
            (equation v6 v5 sx
            ∷ equation minus_one (sum sy v4) (constant 0)
            ∷ by_chord minus_one v6 v1 v0 v3 v2
            ∷ []) (sym e, (f, (s.chord, tt)))
            (product v6 (difference v5 v3)) (difference v4 v2) refl;
        tangent = identity 7 xs below
            (equation (difference v1 (sum (product v6 v6) v5)) v5 sx
            ∷ equation v6 (sum sy v4) (constant 0)
            ∷ by_tangent (constant 1) v6 v1 v0 v3 v2
            ∷ []) (sym e, (f, (s.tangent, tt)))
            (product v6 (sum v2 v4)) (square_expr v3 v5) refl;
      };
      x = identity 7 xs below (equation (constant 1) v5 sx ∷ []) (sym e, tt) v1 (line_x_expr v6 v3 v5) refl;
      y = identity 7 xs below (equation v6 v5 sx ∷ by_chord (constant 1) v6 v1 v0 v3 v2 ∷ []) (sym e, (s.chord, tt))
          (sum v0 (line_y_expr v6 v3 v2 v5)) (constant 0) refl;
    }

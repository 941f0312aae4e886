-- Points that are the same, and what a point can be: neutral, or of the plane.
use Rattle.std.proofs.Common.{◌≡◌, ◌≢◌, ℕ, ◌-◌, ◌<◌, inl, inr, [], ◌∷◌, refl, sym, ◌∙◌, ap, ap₂, lit<, suc-ne-zero}
use Rattle.paseto_primes.specs.Polynomial.{constant, difference, product, sum}
use Rattle.paseto_weierstrass_laws.specs.Curve.{curve_b}
use Rattle.paseto_weierstrass_laws.specs.Field.{inverse, prime, times}
use Rattle.paseto_weierstrass_laws.specs.Group.{IsPoint, Same, cubic}
use Rattle.paseto_weierstrass_laws.specs.Point.{Point, base, neutral}
use Rattle.paseto_weierstrass_laws.proofs.FieldLaws.{cube-zero, fermat, inverse-below, inverse-ne-zero, power_times, restored, times-below, times-ne-zero, times-zero, times_assoc, times_comm, times_none, times_one, times_unit, zero_or_not}
use Rattle.paseto_weierstrass_laws.proofs.Formulas.{cubic_expr, summing}
use Rattle.paseto_weierstrass_laws.proofs.Identities.{equation, identity, minus_one, v0, v1, v2, v3, v4}
use Rattle.paseto_weierstrass_laws.proofs.Plane.{IsPlane, plane_point}
use Rattle.paseto_weierstrass_laws.proofs.RootLaws.{cube_of_cubic}

-- the neutral point
pub neutral-is_point : IsPoint neutral
unfolding summing
neutral-is_point = record {
  x_below = lit< tt;
  y_below = lit< tt;
  z_below = lit< tt;
  on_curve = refl;
  some = λ a b c. suc-ne-zero 0 b;
}

pub base-is_point : IsPoint base
unfolding summing
base-is_point = record {
  x_below = lit< tt;
  y_below = lit< tt;
  z_below = lit< tt;
  on_curve = refl;
  some = λ a b c. suc-ne-zero 0 c;
}

pub plane-is_point : (x y : ℕ) → IsPlane x y → IsPoint (plane_point x y)
plane-is_point x y h = record {
  x_below = h.x_below;
  y_below = h.y_below;
  z_below = lit< tt;
  on_curve = h.on_curve;
  some = λ a b c. suc-ne-zero 0 c;
}

pub same_refl : (p : Point) → IsPoint p → Same p p
same_refl p h = record {
  ratio = 1;
  below = lit< tt;
  nonzero = suc-ne-zero 0;
  x = times_one p.x h.x_below;
  y = times_one p.y h.y_below;
  z = times_one p.z h.z_below;
}

back : (a b r i : ℕ) → a < prime → b < prime → r < prime → i < prime → times r i ≡ 1 → b ≡ times r a → a ≡ times i b
unfolding summing
back a b r i ha hb hr hi inv h =
    identity 4 (a ∷ b ∷ r ∷ i ∷ []) (ha, (hb, (hr, (hi, tt))))
    (equation v0 (constant 1) (product v2 v3)
    ∷ equation v3 (product v2 v0) v1
    ∷ [])
    (sym inv, (sym h, tt)) v0 (product v3 v1) refl

pub same_sym : {p q : Point} → IsPoint p → IsPoint q → Same p q → Same q p
same_sym {p} {q} hp hq s =
    let i = inverse s.ratio in
    let inv = fermat s.ratio s.below s.nonzero in
    record {
      ratio = i;
      below = inverse-below s.ratio;
      nonzero = inverse-ne-zero s.ratio s.below s.nonzero;
      x = back p.x q.x s.ratio i hp.x_below hq.x_below s.below (inverse-below s.ratio) inv s.x;
      y = back p.y q.y s.ratio i hp.y_below hq.y_below s.below (inverse-below s.ratio) inv s.y;
      z = back p.z q.z s.ratio i hp.z_below hq.z_below s.below (inverse-below s.ratio) inv s.z;
    }

pub same_trans : {p q r : Point} → IsPoint p → Same p q → Same q r → Same p r
same_trans {p} {q} {r} h s k = record {
  ratio = times k.ratio s.ratio;
  below = times-below k.ratio s.ratio;
  nonzero = times-ne-zero k.ratio s.ratio k.below s.below k.nonzero s.nonzero;
  x = k.x ∙ ap (times k.ratio) s.x ∙ times_assoc k.ratio s.ratio p.x k.below s.below h.x_below;
  y = k.y ∙ ap (times k.ratio) s.y ∙ times_assoc k.ratio s.ratio p.y k.below s.below h.y_below;
  z = k.z ∙ ap (times k.ratio) s.z ∙ times_assoc k.ratio s.ratio p.z k.below s.below h.z_below;
}

scaled_curve : (x y z r : ℕ) → x < prime → y < prime → z < prime → r < prime → times (times y y) z ≡ cubic x z
    → times (times (times r y) (times r y)) (times r z) ≡ cubic (times r x) (times r z)
unfolding summing
scaled_curve x y z r hx hy hz hr h =
    identity 4 (x ∷ y ∷ z ∷ r ∷ []) (hx, (hy, (hz, (hr, tt))))
    (equation (product v3 (product v3 v3)) (product (product v1 v1) v2) (cubic_expr v0 v2) ∷ []) (h, tt)
    (product (product (product v3 v1) (product v3 v1)) (product v3 v2)) (cubic_expr (product v3 v0) (product v3 v2)) refl

-- what is the same as a point is a point
pub same-is_point : {p q : Point} → IsPoint p → Same p q → IsPoint q
same-is_point {p} {q} h s =
    let zero_of : (c : ℕ) → c < prime → times s.ratio c ≡ 0 → c ≡ 0 = λ c b e. times-zero s.ratio c s.below b s.nonzero e in
    record {
      x_below = rw s.x (times-below s.ratio p.x);
      y_below = rw s.y (times-below s.ratio p.y);
      z_below = rw s.z (times-below s.ratio p.z);
      on_curve = rw (s.x, s.y, s.z) (scaled_curve p.x p.y p.z s.ratio h.x_below h.y_below h.z_below s.below h.on_curve);
      some = λ a b c. h.some (zero_of p.x h.x_below (sym s.x ∙ a)) (zero_of p.y h.y_below (sym s.y ∙ b)) (zero_of p.z h.z_below (sym s.z ∙ c));
    }

unscaled : (a r i j : ℕ) → a < prime → r < prime → i < prime → j < prime → times r i ≡ 1 → times (times r a) (times i j) ≡ times a j
unfolding summing
unscaled a r i j ha hr hi hj inv =
    identity 4 (a ∷ r ∷ i ∷ j ∷ []) (ha, (hr, (hi, (hj, tt))))
    (equation (product v0 v3) (product v1 v2) (constant 1) ∷ []) (inv, tt)
    (product (product v1 v0) (product v2 v3)) (product v0 v3) refl

inverse_times : (r z : ℕ) → inverse (times r z) ≡ times (inverse r) (inverse z)
unfolding inverse
inverse_times r z = power_times r z (prime - 2)

-- the quotients of a point's coordinates are those of the same point
pub same-quotient : (a z b w r : ℕ) → a < prime → r < prime → r ≢ 0 → b ≡ times r a → w ≡ times r z
    → times b (inverse w) ≡ times a (inverse z)
same-quotient a z b w r ha hr nonzero e f =
    ap₂ (λ k l. times k (inverse l)) e f ∙ ap (times (times r a)) (inverse_times r z)
    ∙ unscaled a r (inverse r) (inverse z) ha hr (inverse-below r) (inverse-below z) (fermat r hr nonzero)

-- a point is neutral, or of the plane
pub data Kind (p : Point) : Type 0 where
  at_infinity : Same neutral p → Kind p
  in_plane : (x y : ℕ) → IsPlane x y → Same (plane_point x y) p → Kind p

pub plane_curve : (x y z i : ℕ) → x < prime → y < prime → z < prime → i < prime → times z i ≡ 1 → times (times y y) z ≡ cubic x z
    → times (times (times y i) (times y i)) 1 ≡ cubic (times x i) 1
unfolding summing
plane_curve x y z i hx hy hz hi inv h =
    let zi = product v2 v3 in
    identity 4 (x ∷ y ∷ z ∷ i ∷ []) (hx, (hy, (hz, (hi, tt))))
    (equation (product v3 (product v3 v3)) (product (product v1 v1) v2) (cubic_expr v0 v2)
    ∷ equation (product minus_one (product (product v1 v1) (product v3 v3))) zi (constant 1)
    ∷ equation (product minus_one (difference (product (product (constant 3) (product v0 v3)) (sum zi (constant 1))) (product (constant curve_b) (sum (product zi zi) (sum zi (constant 1)))))) zi (constant 1)
    ∷ [])
    (h, (inv, (inv, tt)))
    (product (product (product v1 v3) (product v1 v3)) (constant 1)) (cubic_expr (product v0 v3) (constant 1)) refl

-- where z is 0, x is
pub x-none : (p : Point) → IsPoint p → p.z ≡ 0 → p.x ≡ 0
x-none p h none =
    let zero_is : times (times p.y p.y) 0 ≡ 0 = times_none (times p.y p.y) (times-below p.y p.y) in
    cube-zero p.x h.x_below (sym (cube_of_cubic p.x h.x_below) ∙ ap (cubic p.x) (sym none) ∙ sym h.on_curve ∙ ap (times (times p.y p.y)) none ∙ zero_is)

pub kind : (p : Point) → IsPoint p → Kind p
kind p h = elim (zero_or_not p.z) [
  | inl none ↦
      let x0 = x-none p h none in
      at_infinity (record {
        ratio = p.y;
        below = h.y_below;
        nonzero = λ e. h.some x0 e none;
        x = x0 ∙ sym (times_none p.y h.y_below);
        y = times_unit p.y h.y_below;
        z = none ∙ sym (times_none p.y h.y_below);
      })
  | inr some ↦
      let i = inverse p.z in
      let inv = fermat p.z h.z_below some in
      in_plane (times p.x i) (times p.y i)
      (record {
        x_below = times-below p.x i;
        y_below = times-below p.y i;
        on_curve = plane_curve p.x p.y p.z i h.x_below h.y_below h.z_below (inverse-below p.z) inv h.on_curve;
      })
      (record {
        ratio = p.z;
        below = h.z_below;
        nonzero = some;
        x = restored p.x p.z i h.x_below h.z_below (inverse-below p.z) inv;
        y = restored p.y p.z i h.y_below h.z_below (inverse-below p.z) inv;
        z = times_unit p.z h.z_below;
      })
]

ratio_of : (a b c d i : ℕ) → a < prime → b < prime → c < prime → d < prime → i < prime → times b i ≡ 1 → times a d ≡ times c b → c ≡ times (times d i) a
unfolding summing
ratio_of a b c d i ha hb hc hd hi inv h =
    identity 5 (a ∷ b ∷ c ∷ d ∷ i ∷ []) (ha, (hb, (hc, (hd, (hi, tt)))))
    (equation v2 (constant 1) (product v1 v4)
    ∷ equation v4 (product v2 v1) (product v0 v3)
    ∷ [])
    (sym inv, (sym h, tt)) v2 (product (product v3 v4) v0) refl

-- two points are the same if their quotients are equal
pub same_of_across : (p q : Point) → IsPoint p → IsPoint q → times p.x q.z ≡ times q.x p.z → times p.y q.z ≡ times q.y p.z → Same p q
same_of_across p q hp hq k l = elim (zero_or_not p.z) [
  | inl none ↦
      let x0 = x-none p hp none in
      let y_some : p.y ≢ 0 = λ e. hp.some x0 e none in
      let z0 : q.z ≡ 0 = times-zero p.y q.z hp.y_below hq.z_below y_some (l ∙ ap (times q.y) none ∙ times_none q.y hq.y_below) in
      let u0 = x-none q hq z0 in
      let i = inverse p.y in
      record {
        ratio = times q.y i;
        below = times-below q.y i;
        nonzero = times-ne-zero q.y i hq.y_below (inverse-below p.y) (λ e. hq.some u0 e z0) (inverse-ne-zero p.y hp.y_below y_some);
        x = u0 ∙ sym (ap (times (times q.y i)) x0 ∙ times_none (times q.y i) (times-below q.y i));
        y = ratio_of p.y p.y q.y q.y i hp.y_below hp.y_below hq.y_below hq.y_below (inverse-below p.y) (fermat p.y hp.y_below y_some)
            (times_comm p.y q.y hp.y_below hq.y_below);
        z = z0 ∙ sym (ap (times (times q.y i)) none ∙ times_none (times q.y i) (times-below q.y i));
      }
  | inr some ↦
      let i = inverse p.z in
      let inv = fermat p.z hp.z_below some in
      let z_some : q.z ≢ 0 = λ e. hq.some
      (times-zero p.z q.x hp.z_below hq.x_below some (times_comm p.z q.x hp.z_below hq.x_below ∙ sym k ∙ ap (times p.x) e ∙ times_none p.x hp.x_below))
      (times-zero p.z q.y hp.z_below hq.y_below some (times_comm p.z q.y hp.z_below hq.y_below ∙ sym l ∙ ap (times p.y) e ∙ times_none p.y hp.y_below)) e in
      record {
        ratio = times q.z i;
        below = times-below q.z i;
        nonzero = times-ne-zero q.z i hq.z_below (inverse-below p.z) z_some (inverse-ne-zero p.z hp.z_below some);
        x = ratio_of p.x p.z q.x q.z i hp.x_below hp.z_below hq.x_below hq.z_below (inverse-below p.z) inv k;
        y = ratio_of p.y p.z q.y q.z i hp.y_below hp.z_below hq.y_below hq.z_below (inverse-below p.z) inv l;
        z = ratio_of p.z p.z q.z q.z i hp.z_below hp.z_below hq.z_below hq.z_below (inverse-below p.z) inv (times_comm p.z q.z hp.z_below hq.z_below);
      }
]

-- where Z is 0, the point is neutral
pub neutral-same : (p : Point) → IsPoint p → p.z ≡ 0 → Same p neutral
neutral-same p h none = elim (kind p h) [
  | at_infinity s ↦ same_sym neutral-is_point h s
  | in_plane x y k s ↦
      let is : 0 ≡ s.ratio = sym none ∙ s.z ∙ sym (times_unit s.ratio s.below) in
      absurd (s.nonzero (sym is))
]

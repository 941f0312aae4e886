-- No sum of two points is (0, 0, 0): that would give the curve a point of order 2.
use Rattle.std.proofs.Common.{◌≡◌, ℕ, ◌-◌, ◌*◌, ◌^◌, ◌<◌, inl, inr, List, [], ◌∷◌, refl}
use Rattle.paseto_primes.specs.Element.{element}
use Rattle.paseto_primes.specs.Identity.{Equation}
use Rattle.paseto_primes.specs.Polynomial.{Expression, constant, difference, product, sum}
use Rattle.paseto_primes.specs.Program.{listed}
use Rattle.paseto_primes.proofs.IdentityLaws.{term, total}
use Rattle.paseto_weierstrass_laws.specs.Curve.{curve_b}
use Rattle.paseto_weierstrass_laws.specs.Field.{minus, plus, prime, times}
use Rattle.paseto_weierstrass_laws.specs.Group.{IsPoint, cubic}
use Rattle.paseto_weierstrass_laws.specs.Point.{Point, point_add}
use Rattle.paseto_weierstrass_laws.proofs.FieldLaws.{minus-below, plus-below, times-zero, zero_or_not}
use Rattle.paseto_weierstrass_laws.proofs.Formulas.{Parts, add_expr, cubic_expr, first, identity-on_curve, parts_of_sum, second, summing, two-below, two-obey, two_points}
use Rattle.paseto_weierstrass_laws.proofs.Identities.{equation, identity, minus_one, v0, v1, v2, v3, v4, v5}
use Rattle.paseto_weierstrass_laws.proofs.RootLaws.{cubic-zero}

-- what the equations are multiplied by (from Singular)
unfoldable inner_by_xy : Expression
inner_by_xy =
    total (term (108 * curve_b ^ 2) (0 ∷ 1 ∷ 5 ∷ 5 ∷ [])
    ∷ term ((prime - 9) * curve_b ^ 2) (0 ∷ 2 ∷ 4 ∷ 5 ∷ [])
    ∷ term (108 * curve_b ^ 2) (1 ∷ 2 ∷ 3 ∷ 5 ∷ [])
    ∷ term ((prime - 126) * curve_b ^ 2) (2 ∷ 2 ∷ 3 ∷ 4 ∷ [])
    ∷ term ((prime - 18) * curve_b ^ 2) (0 ∷ 0 ∷ 3 ∷ 4 ∷ [])
    ∷ term ((prime - 324) * curve_b ^ 2) (0 ∷ 1 ∷ 3 ∷ 3 ∷ [])
    ∷ term (9 * curve_b) (2 ∷ 2 ∷ 4 ∷ 5 ∷ [])
    ∷ term (9 * curve_b) (0 ∷ 0 ∷ 4 ∷ 5 ∷ [])
    ∷ term ((prime - 9) * curve_b) (0 ∷ 1 ∷ 4 ∷ 4 ∷ [])
    ∷ term ((prime - 54) * curve_b) (0 ∷ 1 ∷ 3 ∷ 5 ∷ [])
    ∷ term (72 * curve_b) (0 ∷ 2 ∷ 3 ∷ 4 ∷ [])
    ∷ term (54 * curve_b) (1 ∷ 2 ∷ 3 ∷ 3 ∷ [])
    ∷ term (prime - 243) (0 ∷ 1 ∷ 5 ∷ 5 ∷ [])
    ∷ term (prime - 297) (1 ∷ 2 ∷ 3 ∷ 5 ∷ [])
    ∷ term 351 (2 ∷ 2 ∷ 3 ∷ 4 ∷ [])
    ∷ term 891 (0 ∷ 1 ∷ 3 ∷ 3 ∷ [])
    ∷ [])

unfoldable inner_by_yz : Expression
inner_by_yz =
    total (term ((prime - 99) * curve_b ^ 3) (0 ∷ 0 ∷ 3 ∷ 4 ∷ [])
    ∷ term (135 * curve_b ^ 3) (0 ∷ 1 ∷ 3 ∷ 3 ∷ [])
    ∷ term ((prime - 108) * curve_b ^ 2) (1 ∷ 2 ∷ 5 ∷ 5 ∷ [])
    ∷ term (9 * curve_b ^ 2) (2 ∷ 2 ∷ 4 ∷ 5 ∷ [])
    ∷ term (9 * curve_b ^ 2) (0 ∷ 0 ∷ 4 ∷ 5 ∷ [])
    ∷ term (315 * curve_b ^ 2) (0 ∷ 2 ∷ 3 ∷ 4 ∷ [])
    ∷ term ((prime - 27) * curve_b) (0 ∷ 1 ∷ 5 ∷ 5 ∷ [])
    ∷ term ((prime - 36) * curve_b) (0 ∷ 2 ∷ 4 ∷ 5 ∷ [])
    ∷ term (9 * curve_b) (1 ∷ 2 ∷ 4 ∷ 4 ∷ [])
    ∷ term ((prime - 54) * curve_b) (1 ∷ 2 ∷ 3 ∷ 5 ∷ [])
    ∷ term ((prime - 72) * curve_b) (2 ∷ 2 ∷ 3 ∷ 4 ∷ [])
    ∷ term (243 * curve_b) (0 ∷ 0 ∷ 3 ∷ 4 ∷ [])
    ∷ term ((prime - 432) * curve_b) (0 ∷ 1 ∷ 3 ∷ 3 ∷ [])
    ∷ term 297 (1 ∷ 2 ∷ 5 ∷ 5 ∷ [])
    ∷ term 162 (0 ∷ 1 ∷ 3 ∷ 5 ∷ [])
    ∷ term (prime - 729) (0 ∷ 2 ∷ 3 ∷ 4 ∷ [])
    ∷ [])

unfoldable inner_by_y : Expression
inner_by_y =
    total (term (9 * curve_b ^ 2) (0 ∷ 3 ∷ [])
    ∷ term (1 * curve_b) (1 ∷ 4 ∷ [])
    ∷ term ((prime - 9) * curve_b) (2 ∷ 3 ∷ [])
    ∷ term 9 (2 ∷ 5 ∷ [])
    ∷ term (prime - 27) (0 ∷ 3 ∷ [])
    ∷ [])

unfoldable low_by_xy : Expression
low_by_xy =
    total (term ((prime - 27) * curve_b) (0 ∷ 1 ∷ 5 ∷ 5 ∷ [])
    ∷ term ((prime - 9) * curve_b) (0 ∷ 2 ∷ 4 ∷ 5 ∷ [])
    ∷ term ((prime - 27) * curve_b) (1 ∷ 2 ∷ 3 ∷ 5 ∷ [])
    ∷ term (9 * curve_b) (2 ∷ 2 ∷ 3 ∷ 4 ∷ [])
    ∷ term ((prime - 18) * curve_b) (0 ∷ 0 ∷ 3 ∷ 4 ∷ [])
    ∷ term (54 * curve_b) (0 ∷ 1 ∷ 3 ∷ 3 ∷ [])
    ∷ term (prime - 27) (1 ∷ 2 ∷ 5 ∷ 5 ∷ [])
    ∷ term 9 (2 ∷ 2 ∷ 4 ∷ 5 ∷ [])
    ∷ term 9 (0 ∷ 0 ∷ 4 ∷ 5 ∷ [])
    ∷ term (prime - 9) (0 ∷ 1 ∷ 4 ∷ 4 ∷ [])
    ∷ term 54 (0 ∷ 1 ∷ 3 ∷ 5 ∷ [])
    ∷ term 9 (1 ∷ 1 ∷ 3 ∷ 4 ∷ [])
    ∷ term 72 (0 ∷ 2 ∷ 3 ∷ 4 ∷ [])
    ∷ term 27 (1 ∷ 2 ∷ 3 ∷ 3 ∷ [])
    ∷ [])

unfoldable low_by_yz : Expression
low_by_yz =
    total (term (36 * curve_b ^ 2) (0 ∷ 0 ∷ 3 ∷ 4 ∷ [])
    ∷ term (27 * curve_b) (1 ∷ 2 ∷ 5 ∷ 5 ∷ [])
    ∷ term (9 * curve_b) (2 ∷ 2 ∷ 4 ∷ 5 ∷ [])
    ∷ term (9 * curve_b) (0 ∷ 0 ∷ 4 ∷ 5 ∷ [])
    ∷ term ((prime - 54) * curve_b) (0 ∷ 1 ∷ 3 ∷ 5 ∷ [])
    ∷ term ((prime - 90) * curve_b) (0 ∷ 2 ∷ 3 ∷ 4 ∷ [])
    ∷ term ((prime - 27) * curve_b) (1 ∷ 2 ∷ 3 ∷ 3 ∷ [])
    ∷ term 27 (0 ∷ 1 ∷ 5 ∷ 5 ∷ [])
    ∷ term (prime - 9) (1 ∷ 1 ∷ 4 ∷ 5 ∷ [])
    ∷ term (prime - 36) (0 ∷ 2 ∷ 4 ∷ 5 ∷ [])
    ∷ term 9 (1 ∷ 2 ∷ 4 ∷ 4 ∷ [])
    ∷ term 54 (1 ∷ 2 ∷ 3 ∷ 5 ∷ [])
    ∷ term 9 (2 ∷ 2 ∷ 3 ∷ 4 ∷ [])
    ∷ term (prime - 27) (0 ∷ 0 ∷ 3 ∷ 4 ∷ [])
    ∷ term (prime - 27) (0 ∷ 1 ∷ 3 ∷ 3 ∷ [])
    ∷ [])

unfoldable low_by_y : Expression
low_by_y =
    total (term 1 (1 ∷ 4 ∷ [])
    ∷ [])

-- the parts of the sum, as elements of the field
part_of : Point → Point → Expression → ℕ
part_of p q e = element 6 prime (listed (two_points p q)) e

unfoldable parts : Parts
parts = parts_of_sum first second

xy_root : (p q : Point) → IsPoint p → IsPoint q → (point_add p q).z ≡ 0 → cubic (part_of p q parts.xy) (part_of p q parts.yz) ≡ 0
unfolding summing part_of parts
xy_root p q hp hq h =
    identity-on_curve 6 (two_points p q) (two-below hp hq) (two-obey p q hp hq)
    (equation (product v1 v4) ((add_expr first second).z) (constant 0) ∷ []) (h, tt)
    (cubic_expr parts.xy parts.yz) (constant 0) refl

inner_root : (p q : Point) → IsPoint p → IsPoint q → part_of p q parts.xy ≡ 0 → part_of p q parts.yz ≡ 0 → (point_add p q).y ≡ 0
    → cubic (part_of p q parts.inner) (part_of p q parts.high) ≡ 0
unfolding summing part_of parts term total inner_by_xy inner_by_yz inner_by_y
inner_root p q hp hq h k l =
    identity-on_curve 6 (two_points p q) (two-below hp hq) (two-obey p q hp hq)
    (equation inner_by_xy parts.xy (constant 0)
    ∷ equation inner_by_yz parts.yz (constant 0)
    ∷ equation inner_by_y ((add_expr first second).y) (constant 0)
    ∷ []) (h, (k, (l, tt)))
    (cubic_expr parts.inner parts.high) (constant 0) refl

low_root : (p q : Point) → IsPoint p → IsPoint q → part_of p q parts.xy ≡ 0 → part_of p q parts.yz ≡ 0 → (point_add p q).y ≡ 0
    → cubic (part_of p q parts.low) (part_of p q (difference (constant 0) parts.outer)) ≡ 0
unfolding summing part_of parts term total low_by_xy low_by_yz low_by_y
low_root p q hp hq h k l =
    identity-on_curve 6 (two_points p q) (two-below hp hq) (two-obey p q hp hq)
    (equation low_by_xy parts.xy (constant 0)
    ∷ equation low_by_yz parts.yz (constant 0)
    ∷ equation low_by_y ((add_expr first second).y) (constant 0)
    ∷ []) (h, (k, (l, tt)))
    (cubic_expr parts.low (difference (constant 0) parts.outer)) (constant 0) refl

minus_none : (a : ℕ) → a < prime → minus 0 a ≡ 0 → a ≡ 0
unfolding summing
minus_none a h e =
    identity 1 (a ∷ []) (h, tt)
    (equation minus_one (difference (constant 0) v0) (constant 0) ∷ []) (e, tt) v0 (constant 0) refl

unfoldable zz_equations : Parts → List Equation
zz_equations k =
    equation (constant 0xa2f044beb85a49a5d0d7784536f1a0bc2b176c5f65c0a23b62403aa4e72f9fb18edc38eea972ce5c72f00959f796493c) k.low (constant 0)
    ∷ equation (constant 0x5d0fbb4147a5b65a2f2887bac90e5f43d4e893a09a3f5dc49dbfc55b18d0604d7123c710568d31a38d0ff6a70869b6c3) k.high (constant 0)
    ∷ equation (constant 0x672b3d817aba903109715e1ee44fea13f8d76f3d7a00a01807ac756b2f4368e278350c24345b44464b171bba46d6db3a) k.inner (constant 0)
    ∷ equation (constant 0x672b3d817aba903109715e1ee44fea13f8d76f3d7a00a01807ac756b2f4368e278350c24345b44464b171bba46d6db3a) k.outer (constant 0)
    ∷ []

unfoldable xx_equations : Parts → List Equation
xx_equations k =
    equation (constant 0xa2f044beb85a49a5d0d7784536f1a0bc2b176c5f65c0a23b62403aa4e72f9fb18edc38eea972ce5c72f00959f796493c) k.low (constant 0)
    ∷ equation (constant 0x5d0fbb4147a5b65a2f2887bac90e5f43d4e893a09a3f5dc49dbfc55b18d0604d7123c710568d31a38d0ff6a70869b6c3) k.high (constant 0)
    ∷ equation (constant 0x672b3d817aba903109715e1ee44fea13f8d76f3d7a00a01807ac756b2f4368e278350c24345b44464b171bba46d6db3a) k.inner (constant 0)
    ∷ equation (constant 0xbc8092d6d00fe5865ec6b37439a53f694e2cc492cf55f56d5d01cac08498be3778350c23df05eef0f5c1c66546d6db3a) k.outer (constant 0)
    ∷ []

unfoldable xz_equations : Parts → List Equation
xz_equations k =
    equation (constant 0xce567b02f575206212e2bc3dc89fd427f1aede7af40140300f58ead65e86d1c4f06a184868b6888c962e37748dadb674) k.low (constant 0)
    ∷ equation (constant 0x31a984fd0a8adf9ded1d43c237602bd80e5121850bfebfcff0a71529a1792e3a0f95e7b69749777369d1c88c7252498b) k.high (constant 0)
    ∷ equation (constant 0x45e0897d70b4934ba1aef08a6de34178562ed8becb814476c4807549ce5f3f641db871de52e59cb8e5e012b2ef2c9279) k.inner (constant 0)
    ∷ equation (constant 0x45e0897d70b4934ba1aef08a6de34178562ed8becb814476c4807549ce5f3f641db871de52e59cb8e5e012b2ef2c9279) k.outer (constant 0)
    ∷ []

unfoldable yy_equations : Parts → List Equation
yy_equations k =
    equation (constant 0x7fffffffffffffffffffffffffffffffffffffffffffffffffffffffffffffff7fffffff800000000000000080000000) k.low (constant 0)
    ∷ equation (constant 0x7fffffffffffffffffffffffffffffffffffffffffffffffffffffffffffffff7fffffff800000000000000080000000) k.high (constant 0)
    ∷ equation (constant 0x0) k.inner (constant 0)
    ∷ equation (constant 0x0) k.outer (constant 0)
    ∷ []

record Vanish (p q : Point) : Type 0 where
  xy : part_of p q parts.xy ≡ 0
  yz : part_of p q parts.yz ≡ 0
  low : part_of p q parts.low ≡ 0
  high : part_of p q parts.high ≡ 0
  inner : part_of p q parts.inner ≡ 0
  outer : part_of p q parts.outer ≡ 0

vanish : (p q : Point) → IsPoint p → IsPoint q → (point_add p q).y ≡ 0 → (point_add p q).z ≡ 0 → Vanish p q
unfolding summing part_of parts
vanish p q hp hq y0 z0 =
    let a = cubic-zero _ _ (minus-below _ _) (minus-below _ _) (xy_root p q hp hq z0) in
    let b = cubic-zero _ _ (plus-below _ _) (plus-below _ _) (inner_root p q hp hq a.0 a.1 y0) in
    let c = cubic-zero _ _ (minus-below _ _) (minus-below _ _) (low_root p q hp hq a.0 a.1 y0) in
    record { xy = a.0; yz = a.1; low = c.0; high = b.1; inner = b.0; outer = minus_none _ (minus-below _ _) c.1 }

-- the six products of coordinates
record Products (p q : Point) : Type 0 where
  xx : times p.x q.x ≡ 0
  yy : times p.y q.y ≡ 0
  zz : times p.z q.z ≡ 0
  xy : plus (times p.x q.y) (times q.x p.y) ≡ 0
  yz : plus (times p.y q.z) (times q.y p.z) ≡ 0
  xz : plus (times p.x q.z) (times q.x p.z) ≡ 0

products : (p q : Point) → IsPoint p → IsPoint q → Vanish p q → Products p q
unfolding summing part_of parts zz_equations xx_equations yy_equations xz_equations
products p q hp hq h =
    let xs = two_points p q in
    let below = two-below hp hq in
    record {
      xx = identity 6 xs below (xx_equations parts) (h.low, (h.high, (h.inner, (h.outer, tt)))) (product v2 v5) (constant 0) refl;
      yy = identity 6 xs below (yy_equations parts) (h.low, (h.high, (h.inner, (h.outer, tt)))) (product v1 v4) (constant 0) refl;
      zz = identity 6 xs below (zz_equations parts) (h.low, (h.high, (h.inner, (h.outer, tt)))) (product v0 v3) (constant 0) refl;
      xz = identity 6 xs below (xz_equations parts) (h.low, (h.high, (h.inner, (h.outer, tt)))) (sum (product v2 v3) (product v5 v0)) (constant 0) refl;
      xy = identity 6 xs below (equation (constant 1) parts.xy (constant 0) ∷ []) (h.xy, tt) (sum (product v2 v4) (product v5 v1)) (constant 0) refl;
      yz = identity 6 xs below (equation (constant 1) parts.yz (constant 0) ∷ []) (h.yz, tt) (sum (product v1 v3) (product v4 v0)) (constant 0) refl;
    }

-- a b + c d is 0, and so is d: then a b is
left_product : (a b c d : ℕ) → a < prime → b < prime → c < prime → d < prime → plus (times a b) (times c d) ≡ 0 → d ≡ 0 → times a b ≡ 0
unfolding summing
left_product a b c d ha hb hc hd h none =
    identity 4 (a ∷ b ∷ c ∷ d ∷ []) (ha, (hb, (hc, (hd, tt))))
    (equation (constant 1) (sum (product v0 v1) (product v2 v3)) (constant 0)
    ∷ equation (product minus_one v2) v3 (constant 0)
    ∷ []) (h, (none, tt)) (product v0 v1) (constant 0) refl

right_product : (a b c d : ℕ) → a < prime → b < prime → c < prime → d < prime → plus (times a b) (times c d) ≡ 0 → a ≡ 0 → times d c ≡ 0
unfolding summing
right_product a b c d ha hb hc hd h none =
    identity 4 (a ∷ b ∷ c ∷ d ∷ []) (ha, (hb, (hc, (hd, tt))))
    (equation (constant 1) (sum (product v0 v1) (product v2 v3)) (constant 0)
    ∷ equation (product minus_one v1) v0 (constant 0)
    ∷ []) (h, (none, tt)) (product v3 v2) (constant 0) refl

exchange : (a b c d : ℕ) → a < prime → b < prime → c < prime → d < prime → plus (times a b) (times c d) ≡ 0 → plus (times a b) (times d c) ≡ 0
unfolding summing
exchange a b c d ha hb hc hd h =
    identity 4 (a ∷ b ∷ c ∷ d ∷ []) (ha, (hb, (hc, (hd, tt))))
    (equation (constant 1) (sum (product v0 v1) (product v2 v3)) (constant 0) ∷ []) (h, tt)
    (sum (product v0 v1) (product v3 v2)) (constant 0) refl

-- a b + c d is 0, and so is c: then a b is
cut : (a b c d : ℕ) → a < prime → b < prime → c < prime → d < prime → plus (times a b) (times c d) ≡ 0 → c ≡ 0 → times a b ≡ 0
cut a b c d ha hb hc hd e none = left_product a b d c ha hb hd hc (exchange a b c d ha hb hc hd e) none

absurd_products : (p q : Point) → IsPoint p → IsPoint q → Products p q → ⊥
absurd_products p q hp hq h = elim (zero_or_not p.x) [
  | inr some ↦
      let x0 = times-zero p.x q.x hp.x_below hq.x_below some h.xx in
      hq.some x0
      (times-zero p.x q.y hp.x_below hq.y_below some (cut p.x q.y q.x p.y hp.x_below hq.y_below hq.x_below hp.y_below h.xy x0))
      (times-zero p.x q.z hp.x_below hq.z_below some (cut p.x q.z q.x p.z hp.x_below hq.z_below hq.x_below hp.z_below h.xz x0))
  | inl px ↦ elim (zero_or_not p.y) [
    | inr some ↦
        let y0 = times-zero p.y q.y hp.y_below hq.y_below some h.yy in
        hq.some (times-zero p.y q.x hp.y_below hq.x_below some (right_product p.x q.y q.x p.y hp.x_below hq.y_below hq.x_below hp.y_below h.xy px))
        y0 (times-zero p.y q.z hp.y_below hq.z_below some (cut p.y q.z q.y p.z hp.y_below hq.z_below hq.y_below hp.z_below h.yz y0))
    | inl py ↦ elim (zero_or_not p.z) [
      | inr some ↦ hq.some
          (times-zero p.z q.x hp.z_below hq.x_below some (right_product p.x q.z q.x p.z hp.x_below hq.z_below hq.x_below hp.z_below h.xz px))
          (times-zero p.z q.y hp.z_below hq.y_below some (right_product p.y q.z q.y p.z hp.y_below hq.z_below hq.y_below hp.z_below h.yz py))
          (times-zero p.z q.z hp.z_below hq.z_below some h.zz)
      | inl pz ↦ hp.some px py pz
    ]
  ]
]

pub sum-some : (p q : Point) → IsPoint p → IsPoint q → (point_add p q).y ≡ 0 → (point_add p q).z ≡ 0 → ⊥
sum-some p q hp hq y0 z0 = absurd_products p q hp hq (products p q hp hq (vanish p q hp hq y0 z0))

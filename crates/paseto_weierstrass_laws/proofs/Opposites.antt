-- The opposite of a point, and its sum with it.
use Rattle.std.proofs.Common.{◌≡◌, ℕ, ◌<◌, List, [], ◌∷◌, refl}
use Rattle.paseto_primes.specs.Polynomial.{Expression, constant, difference, product}
use Rattle.paseto_primes.proofs.ElementLaws.{AreListedBelow}
use Rattle.paseto_weierstrass_laws.specs.Field.{minus, prime}
use Rattle.paseto_weierstrass_laws.specs.Group.{IsPoint, Same}
use Rattle.paseto_weierstrass_laws.specs.Line.{opposite}
use Rattle.paseto_weierstrass_laws.specs.Point.{Point, neutral, point_add}
use Rattle.paseto_weierstrass_laws.proofs.FieldLaws.{minus-below}
use Rattle.paseto_weierstrass_laws.proofs.Formulas.{ExpressionPoint, add_expr, cubic_expr, summing}
use Rattle.paseto_weierstrass_laws.proofs.Identities.{equation, identity, minus_one, v0, v1, v2}
use Rattle.paseto_weierstrass_laws.proofs.PointLaws.{neutral-same}
use Rattle.paseto_weierstrass_laws.proofs.SumLaws.{sum-is_point}

unfoldable opposite_y : Expression
opposite_y = difference (constant 0) v1

abbrev coordinates : Point → List ℕ
coordinates p = p.x ∷ p.y ∷ p.z ∷ []

below : (p : Point) → IsPoint p → AreListedBelow prime (coordinates p)
below p h = (h.x_below, (h.y_below, (h.z_below, tt)))

no-opposite : (y : ℕ) → y < prime → minus 0 y ≡ 0 → y ≡ 0
unfolding summing
no-opposite y h e =
    identity 1 (y ∷ []) (h, tt) (equation minus_one (difference (constant 0) v0) (constant 0) ∷ []) (e, tt) v0 (constant 0) refl

pub opposite-is_point : (p : Point) → IsPoint p → IsPoint (opposite p)
unfolding summing opposite_y
opposite-is_point p h = record {
  x_below = h.x_below;
  y_below = minus-below 0 p.y;
  z_below = h.z_below;
  on_curve = identity 3 (coordinates p) (below p h)
      (equation (constant 1) (product (product v1 v1) v2) (cubic_expr v0 v2) ∷ []) (h.on_curve, tt)
      (product (product opposite_y opposite_y) v2) (cubic_expr v0 v2) refl;
  some = λ x y z. h.some x (no-opposite p.y h.y_below y) z;
}

unfoldable summed : ExpressionPoint
summed = add_expr (record { x = v0; y = v1; z = v2 }) (record { x = v0; y = opposite_y; z = v2 })

opposite-z : (p : Point) → IsPoint p → (point_add p (opposite p)).z ≡ 0
unfolding summing opposite_y summed
opposite-z p h = identity 3 (coordinates p) (below p h) [] tt summed.z (constant 0) refl

pub opposite-sum : (p : Point) → IsPoint p → Same (point_add p (opposite p)) neutral
opposite-sum p h =
    neutral-same (point_add p (opposite p)) (sum-is_point p (opposite p) h (opposite-is_point p h)) (opposite-z p h)

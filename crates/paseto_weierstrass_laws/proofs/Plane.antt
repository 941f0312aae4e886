-- Points with Z = 1, as expressions in their coordinates x and y.
use Rattle.std.proofs.Common.{◌≡◌, ℕ, suc, ◌<◌, List, [], ◌∷◌, sym, ◌∙◌, lit<}
use Rattle.paseto_primes.specs.Element.{AreBelow}
use Rattle.paseto_primes.specs.Polynomial.{Polynomial, constant, product, sum, variable, variable_polynomial}
use Rattle.paseto_primes.specs.Program.{Agree, listed}
use Rattle.paseto_primes.specs.Reduction.{Obey, Obeys}
use Rattle.paseto_primes.proofs.ElementLaws.{AreListedBelow, element-value, listed-below}
use Rattle.paseto_primes.proofs.ProgramLaws.{at-start}
use Rattle.paseto_weierstrass_laws.specs.Field.{prime, times}
use Rattle.paseto_weierstrass_laws.specs.Group.{cubic}
use Rattle.paseto_weierstrass_laws.specs.Point.{Point}
use Rattle.paseto_weierstrass_laws.proofs.Formulas.{ExpressionPoint, cube_of, cubed, plane, summing}

pub record IsPlane (x y : ℕ) : Type 0 where
  pub x_below : x < prime
  pub y_below : y < prime
  pub on_curve : times (times y y) 1 ≡ cubic x 1

abbrev pub plane_point : ℕ → ℕ → Point
plane_point x y = record { x = x; y = y; z = 1 }

abbrev pub plane_expr : ℕ → ExpressionPoint
plane_expr i = record { x = variable (suc i); y = variable i; z = constant 1 }

-- the point of three variables
abbrev pub point_at : ℕ → ℕ → ℕ → ExpressionPoint
point_at i j k = record { x = variable i; y = variable j; z = variable k }

pub rule-1 : (numbers : ℕ → ℕ) → AreBelow prime numbers → IsPlane (numbers 1) (numbers 0) → Obeys 1 prime numbers (plane 1)
unfolding summing
rule-1 numbers below h =
    let c = cube_of (variable 0) (constant 1) in
    sym (element-value 2 prime numbers (lit< tt) below (product (variable 1) (product (variable 1) (variable 1))))
    ∙ cubed (numbers 1) (numbers 0) 1 h.x_below h.y_below (lit< tt) h.on_curve
    ∙ element-value 2 prime numbers (lit< tt) below (sum (product c.linear (variable 1)) c.rest)

pub rule-3 : (numbers : ℕ → ℕ) → AreBelow prime numbers → IsPlane (numbers 3) (numbers 2) → Obeys 3 prime numbers (plane 3)
unfolding summing
rule-3 numbers below h =
    let c = cube_of (variable 2) (constant 1) in
    sym (element-value 4 prime numbers (lit< tt) below (product (variable 3) (product (variable 3) (variable 3))))
    ∙ cubed (numbers 3) (numbers 2) 1 h.x_below h.y_below (lit< tt) h.on_curve
    ∙ element-value 4 prime numbers (lit< tt) below (sum (product c.linear (variable 3)) c.rest)

-- ---- two points

abbrev pub two : ℕ → ℕ → ℕ → ℕ → List ℕ
two x y v w = y ∷ x ∷ w ∷ v ∷ []

pub two-below : (x y v w : ℕ) → IsPlane x y → IsPlane v w → AreListedBelow prime (two x y v w)
two-below x y v w h k = (h.y_below, (h.x_below, (k.y_below, (k.x_below, tt))))

pub two-obey : (x y v w : ℕ) → IsPlane x y → IsPlane v w → Obey plane 4 prime (listed (two x y v w))
unfolding summing
two-obey x y v w h k =
    let numbers = listed (two x y v w) in
    let below = listed-below prime (two x y v w) (lit< tt) (two-below x y v w h k) in
    (rule-3 numbers below k, (tt, (rule-1 numbers below h, (tt, tt))))

unfoldable pub two_variables : List (Polynomial 4)
two_variables = variable_polynomial 4 0 ∷ variable_polynomial 4 1 ∷ variable_polynomial 4 2 ∷ variable_polynomial 4 3 ∷ []

pub two-start : (x y v w : ℕ) → IsPlane x y → IsPlane v w → Agree 4 prime (listed (two x y v w)) two_variables (two x y v w)
unfolding two_variables summing
two-start x y v w h k =
    let numbers = listed (two x y v w) in
    let start = at-start 4 prime numbers (lit< tt) (listed-below prime (two x y v w) (lit< tt) (two-below x y v w h k)) in
    (start 0, (start 1, (start 2, (start 3, tt))))

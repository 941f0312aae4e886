-- The points that elements of the field are.
use Rattle.std.specs.Prelude.{◌≡◌, ℕ, ◌<◌, List, get_or}
use Rattle.paseto_weierstrass_laws.specs.Field.{times}
use Rattle.paseto_weierstrass_laws.specs.Multiples.{IsMultiple}
use Rattle.paseto_weierstrass_laws.specs.Point.{Point, cross}
use Rattle.paseto_p384.specs.Element.{number}
use Rattle.paseto_p384.specs.declared.point.products.Products.{Products}
use Rattle.paseto_p384.specs.declared.point.plane.PlanePoint.{PlanePoint}
use Rattle.paseto_p384.specs.declared.point.projective.ProjectivePoint.{ProjectivePoint}

abbrev pub coordinates : ProjectivePoint → Point
coordinates p = record { x = number p.x; y = number p.y; z = number p.z }

-- a point whose Z is 1
abbrev pub plane : PlanePoint → Point
plane p = record { x = number p.x; y = number p.y; z = 1 }

-- the products by which the sum of two points is defined
pub record AreProducts (p q : Point) (products : Products) : Type 0 where
  pub xx : number products.xx ≡ times p.x q.x
  pub yy : number products.yy ≡ times p.y q.y
  pub zz : number products.zz ≡ times p.z q.z
  pub xy : number products.xy ≡ cross p.x p.y q.x q.y (times p.x q.x) (times p.y q.y)
  pub yz : number products.yz ≡ cross p.y p.z q.y q.z (times p.y q.y) (times p.z q.z)
  pub xz : number products.xz ≡ cross p.x p.z q.x q.z (times p.x q.x) (times p.z q.z)

-- the multiples of a point by the numbers below n
abbrev pub AreMultiples : Point → ℕ → List ProjectivePoint → Type 0
AreMultiples p n table = (j : ℕ) (other : ProjectivePoint) → j < n → IsMultiple p (coordinates (get_or table j other)) j

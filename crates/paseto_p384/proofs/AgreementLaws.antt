-- The coordinate x of a multiple.
use Rattle.std.proofs.Common.{◌≡◌, ◌≢◌, ℕ, suc, ◌*◌, ◌<◌, List, length, refl, sym, ◌∙◌, ap, subst, arith}
use Rattle.std.specs.Prelude.{None, Option, Some, option_map}
use Rattle.paseto_montgomery.specs.Octets.{i2osp, os2ip}
use Rattle.paseto_montgomery.proofs.OctetsLaws.{i2osp-below, length-i2osp}
use Rattle.rusty_paseto_primitives.specs.Bytes.{IsBytes}
use Rattle.rusty_paseto_primitives.proofs.ByteLists.{IsBytes_cons}
use Rattle.paseto_weierstrass_laws.specs.Curve.{order}
use Rattle.paseto_weierstrass_laws.specs.Group.{IsPoint, Same}
use Rattle.paseto_weierstrass_laws.specs.Multiples.{IsMultiple, multiple_of}
use Rattle.paseto_weierstrass_laws.specs.Point.{Point, base}
use Rattle.paseto_weierstrass_laws.proofs.MultipleLaws.{multiple-times, multiples-same}
use Rattle.paseto_weierstrass_laws.proofs.PointLaws.{base-is_point, same-quotient}
use Rattle.paseto_p384.specs.Agreement.{p384_shared, x_of}
use Rattle.paseto_p384.specs.Encoding.{decoded, encoded}
use Rattle.paseto_p384.specs.P384.{IsPrivate, p384_public}
use Rattle.paseto_weierstrass_laws.proofs.PointOrders.{multiple-some}
use Rattle.paseto_p384.proofs.DecodingLaws.{decoded-finite, decoded-is_point, decoded-public}
use Rattle.paseto_p384.proofs.OptionLaws.{none-some}
use Rattle.paseto_p384.proofs.Validity.{private-parts}

-- coordinates of the same point have one x
pub same-x : (p q : Point) → IsPoint p → Same p q → x_of q ≡ x_of p
unfolding x_of
same-x p q h s =
    ap (λ x. i2osp x 48) (same-quotient p.x p.z q.x q.z s.ratio h.x_below s.below s.nonzero s.x s.z)

-- ---- both parties

-- what d makes of [e]G
made_of : (d e : ℕ) → e < order → e ≢ 0
    → (p : Point) × (option_map (λ q. x_of (multiple_of d q)) (decoded (encoded (multiple_of e base))) ≡ Some (x_of p)) × IsMultiple base p (d * e)
made_of d e below some =
    let key = decoded-public e below some in (
      multiple_of d key.point,
      ap (option_map (λ q. x_of (multiple_of d q))) key.is_decoded,
      multiple-times base key.point d e base-is_point key.multiple,
    )

positive-ne : (n : ℕ) → 0 < n → n ≢ 0
positive-ne n h e = absurd (omega (arith, h, e))

-- the products of both parties are one point
pub shared-same : (own other : List ℕ) → IsPrivate own → IsPrivate other → p384_shared own (p384_public other) ≡ p384_shared other (p384_public own)
unfolding p384_public
shared-same own other h k =
    let d : ℕ = os2ip own in
    let e : ℕ = os2ip other in
    let a = (private-parts own h).1 in
    let b = (private-parts other k).1 in
    let p = made_of d e b.1 (positive-ne e b.0) in
    let q = made_of e d a.1 (positive-ne d a.0) in
    let turned : e * d ≡ d * e = omega arith in
    let same = multiples-same base p.0 q.0 (d * e) base-is_point p.2 (subst (IsMultiple base q.0) turned q.2) in
    p.1 ∙ sym (ap (λ x. Some x) (same-x p.0 q.0 p.2.point same)) ∙ sym q.1

-- the product of a private key and a point is not the point at infinity
pub shared-finite : (private public : List ℕ) (q : Point) → IsPrivate private → decoded public ≡ Some q → (multiple_of (os2ip private) q).z ≢ 0
shared-finite private public q h e =
    let range = (private-parts private h).1 in
    multiple-some (os2ip private) q range.0 range.1 (decoded-is_point public q e) (decoded-finite public q e)

-- a public key is a point in 49 octets
pub public-length : (own : List ℕ) → length (p384_public own) ≡ 49
unfolding p384_public encoded
public-length own = ap suc (length-i2osp _ 48)

pub public-point : (own : List ℕ) → IsPrivate own → decoded (p384_public own) ≢ None
unfolding p384_public
public-point own h none =
    let a = (private-parts own h).1 in
    let key = decoded-public (os2ip own) a.1 (positive-ne (os2ip own) a.0) in
    none-some key.point (sym none ∙ key.is_decoded)

pub public-bytes : (own : List ℕ) → IsBytes (p384_public own)
unfolding p384_public encoded
public-bytes own = IsBytes_cons _ (i2osp _ 48) (omega arith) (i2osp-below _ 48)

-- with a point something is shared
pub shared-some : (private public : List ℕ) → decoded public ≢ None → (x : List ℕ) × (p384_shared private public ≡ Some x)
shared-some private public point = at (decoded public) refl
  where
    at : (o : Option Point) → decoded public ≡ o → (x : List ℕ) × (p384_shared private public ≡ Some x)
    at None e = absurd (point e)
    at (Some q) e = (_, ap (option_map (λ r. x_of (multiple_of (os2ip private) r))) e)

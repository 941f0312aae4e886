use Rattle.std.proofs.Common.{◌≡◌, ◌≢◌, sym, ◌∙◌, subst}
use Rattle.std.proofs.lemmas.Bool.{false≢true}
use Rattle.paseto_weierstrass_laws.specs.Group.{Same}
use Rattle.paseto_weierstrass_laws.specs.Point.{Point, point_double}
use Rattle.paseto_weierstrass_laws.proofs.PointLaws.{same_refl}
use Rattle.paseto_weierstrass_laws.proofs.SumLaws.{double-is_point}
use Rattle.paseto_p384.specs.Element.{number}
use Rattle.paseto_p384.specs.Point.{coordinates}
use Rattle.paseto_p384.proofs.PointLaws.{double-finite, double_finite}
use Rattle.paseto_p384.proofs.point.windows.double_known.Goals as goal

pub returns-then-is_equal : goal.returns-then-is_equal
returns-then-is_equal c =
    let p = coordinates c.args.p in
    subst (Same (point_double p)) (sym c.double.ensures) (same_refl (point_double p) (double-is_point p c.requires))

pub returns : goal.returns
unfolding double_finite
returns c =
    let p = coordinates c.args.p in
    let some : p.z ≢ 0 = λ h. false≢true (c.if-is_equal.ensures.1 (h ∙ sym c.zero.ensures)) in
    let made : Point = record { x = number c.mul-x.result; y = number c.sub-y.result; z = number c.mul-z.result } in
    let is : double_finite p ≡ made = cc in
    subst (Same (point_double p)) is (double-finite p c.requires some)

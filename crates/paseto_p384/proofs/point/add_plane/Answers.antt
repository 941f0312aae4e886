use Rattle.std.proofs.Common.{◌∙◌, ap, ap₂}
use Rattle.paseto_weierstrass_laws.specs.Field.{plus}
use Rattle.paseto_weierstrass_laws.specs.Point.{cross}
use Rattle.paseto_weierstrass_laws.proofs.FieldLaws.{times_unit}
use Rattle.paseto_p384.specs.Point.{coordinates, plane}
use Rattle.paseto_p384.proofs.FieldLaws.{number-below}
use Rattle.paseto_p384.proofs.PointLaws.{cross-unit}
use Rattle.paseto_p384.proofs.point.add_plane.Goals as goal

pub returns : goal.returns
returns c =
    let p = coordinates c.args.p in
    let q = plane c.args.q in
    let x = number-below c.args.p.x in
    let y = number-below c.args.p.y in
    let z = number-below c.args.p.z in
    c.sum_of.ensures p q (record {
      xx = c.mul-xx.ensures;
      yy = c.mul-yy.ensures;
      zz = times_unit p.z z;
      xy = c.cross-xy.ensures ∙ ap₂ (cross p.x p.y q.x q.y) c.mul-xx.ensures c.mul-yy.ensures;
      yz = c.add-yz.ensures ∙ ap (λ w. plus w p.y) c.mul.ensures ∙ cross-unit p.y q.y p.z y (number-below c.args.q.y) z;
      xz = c.add-xz.ensures ∙ ap (λ w. plus w p.x) c.mul-2.ensures ∙ cross-unit p.x q.x p.z x (number-below c.args.q.x) z;
    })

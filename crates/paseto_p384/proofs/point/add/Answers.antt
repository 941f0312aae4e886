use Rattle.std.proofs.Common.{◌∙◌, ap₂}
use Rattle.paseto_weierstrass_laws.specs.Point.{cross}
use Rattle.paseto_p384.specs.Point.{coordinates}
use Rattle.paseto_p384.proofs.point.add.Goals as goal

pub returns : goal.returns
returns c =
    let p = coordinates c.args.p in
    let q = coordinates c.args.q in
    c.sum_of.ensures p q (record {
      xx = c.mul-xx.ensures;
      yy = c.mul-yy.ensures;
      zz = c.mul-zz.ensures;
      xy = c.cross-xy.ensures ∙ ap₂ (cross p.x p.y q.x q.y) c.mul-xx.ensures c.mul-yy.ensures;
      yz = c.cross-yz.ensures ∙ ap₂ (cross p.y p.z q.y q.z) c.mul-yy.ensures c.mul-zz.ensures;
      xz = c.cross-xz.ensures ∙ ap₂ (cross p.x p.z q.x q.z) c.mul-xx.ensures c.mul-zz.ensures;
    })

use Rattle.std.proofs.Common.{◌∙◌, ap}
use Rattle.paseto_edwards25519.specs.Field.{number, times}
use Rattle.paseto_edwards25519.proofs.CurveLaws.{double-factors}
use Rattle.paseto_edwards25519.proofs.point.double.Goals as goal

pub invariant_of-result : goal.invariant_of-result
invariant_of-result c =
    let p = c.args.p in
    let total = c.square.ensures.value ∙ ap (λ n. times n n) c.add.ensures.value in
    record {
      on_curve = (double-factors (number p.x) (number p.y) (number p.z) _ _ _ _ _ _ _ _ _ p.on_curve
          c.square-a.ensures.value c.square-b.ensures.value c.square-zz.ensures.value c.add-c.ensures.value c.add-h.ensures.value
          c.sub-g.ensures.value total c.sub_loose.ensures.value c.add_loose.ensures.value).on_curve;
    }

pub returns : goal.returns
returns c =
    let p = c.args.p in
    let total = c.square.ensures.value ∙ ap (λ n. times n n) c.add.ensures.value in
    (double-factors (number p.x) (number p.y) (number p.z) _ _ _ _ _ _ _ _ _ p.on_curve
    c.square-a.ensures.value c.square-b.ensures.value c.square-zz.ensures.value c.add-c.ensures.value c.add-h.ensures.value
    c.sub-g.ensures.value total c.sub_loose.ensures.value c.add_loose.ensures.value).is

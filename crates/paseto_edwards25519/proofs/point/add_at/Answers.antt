use Rattle.std.proofs.Common.{◌∙◌, ap}
use Rattle.paseto_edwards25519.specs.Field.{number, times}
use Rattle.paseto_edwards25519.proofs.CurveLaws.{sum-factors}
use Rattle.paseto_edwards25519.proofs.FieldLaws.{number-below}
use Rattle.paseto_edwards25519.proofs.point.add_at.Goals as goal

pub returns : goal.returns
returns c =
    let p = c.args.p in
    let q = c.args.q.now in
    (sum-factors (number p.x) (number p.y) (number p.z) (number p.t) (number q.difference) (number q.total) (number q.z) (number q.scaled)
    _ _ _ _ _ _ _ _ _ (number-below q.difference) (number-below q.total) (number-below q.scaled) p.on_curve q.on_curve
    (c.mul-a.ensures.value ∙ ap (λ n. times n (number q.difference)) c.sub.ensures.value)
    (c.mul-b.ensures.value ∙ ap (λ n. times n (number q.total)) c.add.ensures.value)
    c.mul-c.ensures.value c.requires.product c.add-d.ensures.value
    c.sub-2.ensures.value c.sub_loose.ensures.value c.add_loose.ensures.value c.add-2.ensures.value).is

pub invariant_of-result : goal.invariant_of-result
invariant_of-result c =
    let p = c.args.p in
    let q = c.args.q.now in
    record {
      on_curve = (sum-factors (number p.x) (number p.y) (number p.z) (number p.t) (number q.difference) (number q.total) (number q.z) (number q.scaled)
          _ _ _ _ _ _ _ _ _ (number-below q.difference) (number-below q.total) (number-below q.scaled) p.on_curve q.on_curve
          (c.mul-a.ensures.value ∙ ap (λ n. times n (number q.difference)) c.sub.ensures.value)
          (c.mul-b.ensures.value ∙ ap (λ n. times n (number q.total)) c.add.ensures.value)
          c.mul-c.ensures.value c.requires.product c.add-d.ensures.value
          c.sub-2.ensures.value c.sub_loose.ensures.value c.add_loose.ensures.value c.add-2.ensures.value).on_curve;
    }

use Rattle.std.proofs.Common.{◌≡◌, ℕ, ◌+◌, ◌-◌, ◌*◌, refl, sym, ◌∙◌, ap, inl, inr, arith, length-set}
use Rattle.std.proofs.lemmas.Bool.{cases_eq}
use Rattle.std.proofs.lemmas.List.{get_or-set_other, get_or-set_same}
use Rattle.paseto_edwards25519.specs.Curve.{multiple}
use Rattle.paseto_edwards25519.specs.Extended.{affine}
use Rattle.paseto_edwards25519.specs.Point.{point, prepared}
use Rattle.paseto_edwards25519.proofs.CurveLaws.{multiple-once}
use Rattle.paseto_edwards25519.proofs.MultipleLaws.{multiple-next, multiple-twice}
use Rattle.paseto_edwards25519.proofs.point.joint.odd_multiples.Goals as goal

pub multiples-init : goal.multiples-init
multiples-init c =
    let a = point c.args.a in
    let once = sym (multiple-once a c.args.a.on_curve.point) in
    record {
      all = refl;
      last = once;
      made = λ j other below.
          let first : j ≡ 0 = omega arith in
          rw first (c.prepared-table.ensures ∙ once);
    }

pub multiples-preserved : goal.multiples-preserved
multiples-preserved c =
    let a = point c.args.a in
    let i : ℕ = c.multiples.i in
    let table = c.multiples.table in
    let on_curve = c.args.a.on_curve.point in
    let twice = c.prepared-twice.ensures ∙ c.to_extended.ensures
    ∙ multiple-twice 1 a _ _ on_curve c.double.ensures (c.flattened.ensures ∙ sym (multiple-once a on_curve)) in
    let count : 2 * (i - 1) + 1 + 2 ≡ 2 * i + 1 = omega arith in
    let last = c.to_extended-last.ensures
    ∙ multiple-next (2 * (i - 1) + 1) 2 a _ _ _ on_curve c.add.ensures c.multiples.invariant.last twice
    ∙ ap (λ k. multiple k a) count in
    let same : 2 * (i + 1 - 1) + 1 ≡ 2 * i + 1 = omega arith in
    record {
      all = length-set table i c.prepared.result ∙ c.multiples.invariant.all;
      last = last ∙ ap (λ k. multiple k a) (sym same);
      made = λ j other below. elim (cases_eq j i) [
        | inl here ↦
            rw here (ap (λ q. affine (prepared q)) (get_or-set_same table i c.prepared.result other (omega (arith, c.multiples.invariant.all)))
            ∙ c.prepared.ensures ∙ last)
        | inr apart ↦
            ap (λ q. affine (prepared q)) (get_or-set_other table i j c.prepared.result other apart)
            ∙ c.multiples.invariant.made j other (omega arith)
      ];
    }

pub returns : goal.returns
returns c j other below = c.multiples.invariant.made j other (omega arith)

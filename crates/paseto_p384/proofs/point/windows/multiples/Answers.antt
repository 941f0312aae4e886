use Rattle.std.proofs.Common.{◌≡◌, ℕ, ◌+◌, ◌-◌, refl, sym, ◌∙◌, inl, inr, subst, arith, length-set}
use Rattle.std.proofs.lemmas.Bool.{cases_eq}
use Rattle.std.proofs.lemmas.List.{get_or-set_other, get_or-set_same}
use Rattle.paseto_weierstrass_laws.specs.Multiples.{IsMultiple}
use Rattle.paseto_weierstrass_laws.specs.Point.{Point}
use Rattle.paseto_weierstrass_laws.proofs.MultipleLaws.{multiple-add, multiple-neutral, multiple-one}
use Rattle.paseto_p384.specs.Point.{coordinates}
use Rattle.paseto_p384.specs.declared.point.projective.ProjectivePoint.{ProjectivePoint}
use Rattle.paseto_p384.proofs.point.windows.multiples.Goals as goal

pub multiples-init : goal.multiples-init
multiples-init c =
    let p = coordinates c.args.p in
    let none : IsMultiple p (coordinates c.neutral-last.result) 0 = rw c.neutral-last.ensures (multiple-neutral p) in
    record {
      all = refl;
      last = none;
      made = λ j other below.
          let first : j ≡ 0 = omega arith in
          rw first none;
    }

pub multiples-preserved : goal.multiples-preserved
multiples-preserved c =
    let p = coordinates c.args.p in
    let i : ℕ = c.multiples.i in
    let table = c.multiples.table in
    let made = c.add-last.result in
    let count : i - 1 + 1 ≡ i = omega arith in
    let sum : IsMultiple p (coordinates made) i =
    subst (λ (q : Point). IsMultiple p q i) (sym c.add-last.ensures)
    (subst (IsMultiple p _) count (multiple-add p (coordinates c.multiples.last) p (i - 1) 1 c.requires c.multiples.invariant.last (multiple-one p c.requires))) in
    let same : i ≡ i + 1 - 1 = omega arith in
    record {
      all = length-set table i made ∙ c.multiples.invariant.all;
      last = subst (IsMultiple p (coordinates made)) same sum;
      made = λ j other below. elim (cases_eq j i) [
        | inl here ↦
            rw here (subst (λ (q : ProjectivePoint). IsMultiple p (coordinates q) i)
            (sym (get_or-set_same table i made other (omega (arith, c.multiples.invariant.all)))) sum)
        | inr apart ↦
            subst (λ (q : ProjectivePoint). IsMultiple p (coordinates q) j) (sym (get_or-set_other table i j made other apart))
            (c.multiples.invariant.made j other (omega arith))
      ];
    }

pub returns : goal.returns
returns c j other below = c.multiples.invariant.made j other (omega arith)

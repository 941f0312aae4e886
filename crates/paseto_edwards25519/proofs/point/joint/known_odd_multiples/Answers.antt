use Rattle.std.proofs.Common.{◌≡◌, ℕ, refl, ◌∙◌, ap, inl, inr, arith, length-set}
use Rattle.std.proofs.lemmas.Bool.{cases_eq}
use Rattle.std.proofs.lemmas.List.{get_or-set_other, get_or-set_same}
use Rattle.paseto_edwards25519.specs.Extended.{affine}
use Rattle.paseto_edwards25519.specs.Field.{number}
use Rattle.paseto_edwards25519.specs.Point.{prepared}
use Rattle.paseto_edwards25519.proofs.point.joint.known_odd_multiples.Goals as goal

pub multiples-init : goal.multiples-init
multiples-init c = record {
  all = refl;
  made = λ j other below. let first : j ≡ 0 = omega arith in rw first c.known_multiple-table.ensures.is;
  unit = λ j other below. let first : j ≡ 0 = omega arith in rw first c.known_multiple-table.ensures.unit;
}

pub multiples-preserved : goal.multiples-preserved
multiples-preserved c =
    let i : ℕ = c.multiples.i in
    let table = c.multiples.table in
    let made = c.known_multiple.result in
    let bound = c.multiples.invariant.all in
    record {
      all = length-set table i made ∙ bound;
      made = λ j other below. elim (cases_eq j i) [
        | inl here ↦
            rw here (ap (λ q. affine (prepared q)) (get_or-set_same table i made other (omega (arith, bound))) ∙ c.known_multiple.ensures.is)
        | inr apart ↦
            ap (λ q. affine (prepared q)) (get_or-set_other table i j made other apart) ∙ c.multiples.invariant.made j other (omega arith)
      ];
      unit = λ j other below. elim (cases_eq j i) [
        | inl here ↦
            rw here (ap (λ q. number q.z) (get_or-set_same table i made other (omega (arith, bound))) ∙ c.known_multiple.ensures.unit)
        | inr apart ↦
            ap (λ q. number q.z) (get_or-set_other table i j made other apart) ∙ c.multiples.invariant.unit j other (omega arith)
      ];
    }

pub returns-clause-is : goal.returns-clause-is
returns-clause-is c j other below = c.multiples.invariant.made j other (omega arith)

pub returns-clause-unit : goal.returns-clause-unit
returns-clause-unit c j other below = c.multiples.invariant.unit j other (omega arith)

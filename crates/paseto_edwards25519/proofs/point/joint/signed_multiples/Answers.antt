use Rattle.std.proofs.Common.{◌≡◌, ℕ, ◌+◌, ◌-◌, ◌*◌, ◌<◌, refl, sym, ◌∙◌, ap, inl, inr, arith, length-set, get_or, set}
use Rattle.std.proofs.lemmas.Bool.{cases_eq, cases_lt}
use Rattle.std.proofs.lemmas.List.{get_or-set_other, get_or-set_same}
use Rattle.paseto_edwards25519.specs.Curve.{opposite}
use Rattle.paseto_edwards25519.specs.Extended.{affine}
use Rattle.paseto_edwards25519.specs.Field.{number}
use Rattle.paseto_edwards25519.specs.Point.{prepared}
use Rattle.paseto_edwards25519.specs.declared.point.addend.Addend.{Addend}
use Rattle.paseto_edwards25519.proofs.MultipleLaws.{signed-from_opposite, signed-plain}
use Rattle.paseto_edwards25519.proofs.point.joint.signed_multiples.Goals as goal

pub multiples-init : goal.multiples-init
multiples-init c = record {
  all = refl;
  kept = λ a made j other below. absurd (omega (arith, below));
  opposed = λ a made j other below. absurd (omega (arith, below));
  kept_unit = λ unit j other below. absurd (omega (arith, below));
  opposed_unit = λ unit j other below. absurd (omega (arith, below));
}

pub multiples-preserved : goal.multiples-preserved
multiples-preserved c =
    let i : ℕ = c.multiples.i in
    let table = c.multiples.table in
    let item = get_or c.args.odd.now i c.index-odd-i.result in
    let opposed = c.opposed.result in
    let half = set table i item in
    let bound = c.multiples.invariant.all in
    let half_bound = length-set table i item ∙ bound in
    let low : i < 8 = omega arith in
    let at_item = λ (other : Addend). get_or-set_other half (15 - i) i opposed other (λ e. omega (arith, e, low))
    ∙ get_or-set_same table i item other (omega (arith, bound, low)) in
    let below_item = λ (j : ℕ) (other : Addend) (below : j < i). get_or-set_other half (15 - i) j opposed other (λ e. omega (arith, e, low, below))
    ∙ get_or-set_other table i j item other (λ e. omega (arith, e, below)) in
    let at_opposed = λ (other : Addend). get_or-set_same half (15 - i) opposed other (omega (arith, half_bound, low)) in
    let above_opposed = λ (j : ℕ) (other : Addend) (below : j < i). get_or-set_other half (15 - i) (15 - j) opposed other (λ e. omega (arith, e, low, below))
    ∙ get_or-set_other table i (15 - j) item other (λ e. omega (arith, e, low, below)) in
    record {
      all = length-set half (15 - i) opposed ∙ half_bound;
      kept = λ a made j other below. elim (cases_eq j i) [
        | inl here ↦ rw here (ap (λ q. affine (prepared q)) (at_item other) ∙ made i _ low)
        | inr apart ↦
            ap (λ q. affine (prepared q)) (below_item j other (omega (arith, apart))) ∙ c.multiples.invariant.kept a made j other (omega (arith, apart))
      ];
      opposed = λ a made j other below. elim (cases_eq j i) [
        | inl here ↦
            rw here (ap (λ q. affine (prepared q)) (at_opposed other) ∙ c.opposed.ensures.is ∙ ap (λ b. opposite b) (made i _ low))
        | inr apart ↦
            ap (λ q. affine (prepared q)) (above_opposed j other (omega (arith, apart)))
            ∙ c.multiples.invariant.opposed a made j other (omega (arith, apart))
      ];
      kept_unit = λ unit j other below. elim (cases_eq j i) [
        | inl here ↦ rw here (ap (λ q. number q.z) (at_item other) ∙ unit i _ low)
        | inr apart ↦
            ap (λ q. number q.z) (below_item j other (omega (arith, apart))) ∙ c.multiples.invariant.kept_unit unit j other (omega (arith, apart))
      ];
      opposed_unit = λ unit j other below. elim (cases_eq j i) [
        | inl here ↦ rw here (ap (λ q. number q.z) (at_opposed other) ∙ c.opposed.ensures.unit ∙ unit i _ low)
        | inr apart ↦
            ap (λ q. number q.z) (above_opposed j other (omega (arith, apart)))
            ∙ c.multiples.invariant.opposed_unit unit j other (omega (arith, apart))
      ];
    }

pub returns-clause-is : goal.returns-clause-is
returns-clause-is c a point made j other below = elim (cases_lt j 8) [
  | inl low ↦ c.multiples.invariant.kept a made j other (omega (arith, low)) ∙ sym (signed-plain (2 * j + 1) a (omega (arith, low)))
  | inr high ↦
      let i : ℕ = 15 - j in
      let back : 15 - i ≡ j = omega (arith, below) in
      signed-from_opposite j a _ point high below
      (ap (λ k. affine (prepared (get_or c.multiples.table k other))) (sym back)
      ∙ c.multiples.invariant.opposed a made i other (omega (arith, high)))
]

pub returns-clause-unit : goal.returns-clause-unit
returns-clause-unit c unit j other below = elim (cases_lt j 8) [
  | inl low ↦ c.multiples.invariant.kept_unit unit j other (omega (arith, low))
  | inr high ↦
      let i : ℕ = 15 - j in
      let back : 15 - i ≡ j = omega (arith, below) in
      ap (λ k. number (get_or c.multiples.table k other).z) (sym back) ∙ c.multiples.invariant.opposed_unit unit i other (omega (arith, high))
]

use Rattle.std.proofs.Common.{◌≡◌, inl, inr, sym, subst, arith}
use Rattle.std.proofs.lemmas.Bool.{cases_eq}
use Rattle.paseto_weierstrass_laws.specs.Multiples.{IsMultiple}
use Rattle.paseto_weierstrass_laws.specs.Point.{Point}
use Rattle.paseto_p384.proofs.PointLaws.{not-none}
use Rattle.paseto_p384.proofs.point.secret_windows.select.Goals as goal

pub multiples-init : goal.multiples-init
multiples-init c q made low =
    let none : c.args.at ≡ 0 = omega arith in
    rw none (made 0 _ (omega arith))

pub multiples-preserved : goal.multiples-preserved
multiples-preserved c q made low = elim (cases_eq c.args.at c.multiples.i) [
  | inl same ↦
      let taken = c.choose_point-chosen.ensures.zero (c.is_different.ensures.same same) in
      subst (λ (p : Point). IsMultiple q p c.args.at) (sym taken)
      (rw same (made c.multiples.i _ (omega arith)))
  | inr apart ↦
      let other = not-none c.is_different.result c.is_different.ensures.small (λ none. apart (c.is_different.ensures.other none)) in
      subst (λ (p : Point). IsMultiple q p c.args.at) (sym (c.choose_point-chosen.ensures.one other))
      (c.multiples.invariant q made (omega arith))
]

pub returns : goal.returns
returns c q made = c.multiples.invariant q made (omega arith)

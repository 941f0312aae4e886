use Rattle.std.proofs.Common.{◌≡◌, ◌*◌, ◌^◌, inl, inr, sym, subst, arith}
use Rattle.std.proofs.lemmas.Bool.{cases_eq}
use Rattle.paseto_weierstrass_laws.specs.Multiples.{IsMultiple}
use Rattle.paseto_weierstrass_laws.specs.Point.{Point, base}
use Rattle.paseto_p384.specs.Point.{plane}
use Rattle.paseto_p384.proofs.PointLaws.{not-none}
use Rattle.paseto_p384.proofs.point.comb.multiple_at.Goals as goal

pub digits-init : goal.digits-init
digits-init c some low =
    let one : 1 ≡ c.args.at = omega arith in
    subst (λ k. IsMultiple base (plane c.known_multiple-chosen.result) (k * 2 ^ (16 * c.args.row))) one c.known_multiple-chosen.ensures

pub digits-preserved : goal.digits-preserved
digits-preserved c some low = elim (cases_eq c.args.at c.digits.i) [
  | inl same ↦
      let taken = c.choose_plane-chosen.ensures.zero (c.is_different.ensures.same same) in
      subst (λ (p : Point). IsMultiple base p (c.args.at * 2 ^ (16 * c.args.row))) (sym taken)
      (subst (λ k. IsMultiple base (plane c.known_multiple.result) (k * 2 ^ (16 * c.args.row))) (sym same) c.known_multiple.ensures)
  | inr apart ↦
      let other = not-none c.is_different.result c.is_different.ensures.small (λ none. apart (c.is_different.ensures.other none)) in
      let kept = c.choose_plane-chosen.ensures.one other in
      subst (λ (p : Point). IsMultiple base p (c.args.at * 2 ^ (16 * c.args.row))) (sym kept)
      (c.digits.invariant some (omega arith))
]

pub returns : goal.returns
returns c some = c.digits.invariant some (omega arith)

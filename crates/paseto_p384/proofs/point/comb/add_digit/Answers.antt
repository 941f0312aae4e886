use Rattle.std.proofs.Common.{◌≡◌, ℕ, ◌+◌, ◌*◌, ◌^◌, inl, inr, sym, ◌∙◌, ap, subst, arith}
use Rattle.paseto_weierstrass_laws.specs.Multiples.{IsMultiple}
use Rattle.paseto_weierstrass_laws.specs.Point.{Point, base}
use Rattle.paseto_weierstrass_laws.proofs.FieldLaws.{zero_or_not}
use Rattle.paseto_weierstrass_laws.proofs.MultipleLaws.{multiple-add}
use Rattle.paseto_weierstrass_laws.proofs.PointLaws.{base-is_point}
use Rattle.paseto_p384.specs.Point.{coordinates, plane}
use Rattle.paseto_p384.proofs.PointLaws.{not-none}
use Rattle.paseto_p384.proofs.point.comb.add_digit.Goals as goal

pub returns : goal.returns
returns c n h =
    let at : ℕ = c.args.at in
    let worth : ℕ = at * 2 ^ (16 * c.args.row) in
    elim (zero_or_not at) [
      | inl none ↦
          let kept = c.choose_point.ensures.zero (c.is_different.ensures.same none) in
          let same : n ≡ n + worth = omega (arith, ap (λ k. k * 2 ^ (16 * c.args.row)) none) in
          subst (λ (p : Point). IsMultiple base p (n + worth)) (sym kept) (subst (IsMultiple base (coordinates c.args.p)) same h)
      | inr some ↦
          let other = not-none c.is_different.result c.is_different.ensures.small (λ none. some (c.is_different.ensures.other none)) in
          let sum = c.choose_point.ensures.one other ∙ c.add_plane.ensures in
          subst (λ (p : Point). IsMultiple base p (n + worth)) (sym sum)
          (multiple-add base (coordinates c.args.p) (plane c.multiple_at.result) n worth base-is_point h (c.multiple_at.ensures (omega (arith, some))))
    ]

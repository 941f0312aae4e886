use Rattle.std.proofs.Common.{◌≡◌, ◌+◌, sym, subst, arith}
use Rattle.paseto_weierstrass_laws.specs.Multiples.{IsMultiple}
use Rattle.paseto_weierstrass_laws.specs.Point.{Point}
use Rattle.paseto_weierstrass_laws.proofs.MultipleLaws.{multiple-add}
use Rattle.paseto_p384.specs.Point.{coordinates}
use Rattle.paseto_p384.proofs.point.windows.add_listed.Goals as goal

pub returns-then-at-eq0 : goal.returns-then-at-eq0
returns-then-at-eq0 c q n hq made h =
    let none : n ≡ n + c.args.at = omega (arith, c.if-at-eq0.true) in
    subst (IsMultiple q (coordinates c.args.sum)) none h

pub returns : goal.returns
returns c q n hq made h =
    subst (λ (p : Point). IsMultiple q p (n + c.args.at)) (sym c.add.ensures)
    (multiple-add q (coordinates c.args.sum) _ n c.args.at hq h (made c.args.at _ c.requires))

use Rattle.std.proofs.Common.{◌≡◌, ◌*◌, sym, ◌∙◌, ap, subst}
use Rattle.paseto_weierstrass_laws.specs.Multiples.{IsMultiple}
use Rattle.paseto_weierstrass_laws.specs.Point.{Point, point_double}
use Rattle.paseto_p384.specs.Point.{coordinates}
use Rattle.paseto_p384.proofs.PointLaws.{sixteen-doubles}
use Rattle.paseto_p384.proofs.point.sixteen_times.Goals as goal

pub returns : goal.returns
returns c q n hq h =
    let made : coordinates c.double-4.result ≡ point_double (point_double (point_double (point_double (coordinates c.args.p)))) =
    c.double-4.ensures ∙ ap point_double (c.double-3.ensures ∙ ap point_double (c.double-2.ensures ∙ ap point_double c.double.ensures)) in
    subst (λ (p : Point). IsMultiple q p (16 * n)) (sym made) (sixteen-doubles q (coordinates c.args.p) n hq h)

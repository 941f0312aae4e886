use Rattle.std.proofs.Common.{◌*◌, ◌^◌, ◌<◌}
use Rattle.paseto_weierstrass_laws.specs.Multiples.{IsMultiple}
use Rattle.paseto_weierstrass_laws.specs.Point.{base}
use Rattle.paseto_p384.specs.Point.{plane}
use Rattle.paseto_p384.proofs.point.comb.multiple_at.Given as goal

abbrev pub invariant-digits : goal.invariant-digits
invariant-digits l = 0 < l.fn.at → l.fn.at < l.i → IsMultiple base (plane l.chosen) (l.fn.at * 2 ^ (16 * l.fn.row))

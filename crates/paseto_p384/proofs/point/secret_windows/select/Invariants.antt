use Rattle.std.proofs.Common.{◌<◌}
use Rattle.paseto_weierstrass_laws.specs.Multiples.{IsMultiple}
use Rattle.paseto_weierstrass_laws.specs.Point.{Point}
use Rattle.paseto_p384.specs.Point.{AreMultiples, coordinates}
use Rattle.paseto_p384.proofs.point.secret_windows.select.Given as goal

abbrev pub invariant-multiples : goal.invariant-multiples
invariant-multiples l = (q : Point) → AreMultiples q 16 l.table → l.fn.at < l.i → IsMultiple q (coordinates l.chosen) l.fn.at

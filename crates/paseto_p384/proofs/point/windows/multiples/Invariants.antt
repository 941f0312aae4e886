use Rattle.std.proofs.Common.{◌≡◌, ◌-◌, length}
use Rattle.paseto_weierstrass_laws.specs.Multiples.{IsMultiple}
use Rattle.paseto_p384.specs.Point.{AreMultiples, coordinates}
use Rattle.paseto_p384.proofs.point.windows.multiples.Given as goal

abbrev pub invariant-multiples : goal.invariant-multiples
invariant-multiples l = record {
  all : length l.table ≡ 16;
  last : IsMultiple (coordinates l.fn.p) (coordinates l.last) (l.i - 1);
  made : AreMultiples (coordinates l.fn.p) l.i l.table;
}

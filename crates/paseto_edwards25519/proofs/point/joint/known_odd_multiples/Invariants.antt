use Rattle.std.proofs.Common.{◌≡◌, length}
use Rattle.paseto_edwards_laws.specs.Edwards25519.{base}
use Rattle.paseto_edwards25519.specs.Point.{AreOddMultiples, HaveUnitZ}
use Rattle.paseto_edwards25519.proofs.point.joint.known_odd_multiples.Given as goal

abbrev pub invariant-multiples : goal.invariant-multiples
invariant-multiples l = record {
  all : length l.table ≡ 8;
  made : AreOddMultiples base l.i l.table;
  unit : HaveUnitZ l.i l.table;
}

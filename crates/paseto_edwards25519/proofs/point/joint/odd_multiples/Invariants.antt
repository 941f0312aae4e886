use Rattle.std.proofs.Common.{◌≡◌, ◌+◌, ◌-◌, ◌*◌, length}
use Rattle.paseto_edwards25519.specs.Curve.{multiple}
use Rattle.paseto_edwards25519.specs.Point.{AreOddMultiples, point}
use Rattle.paseto_edwards25519.proofs.point.joint.odd_multiples.Given as goal

abbrev pub invariant-multiples : goal.invariant-multiples
invariant-multiples l = record {
  all : length l.table ≡ 8;
  last : point l.last ≡ multiple (2 * (l.i - 1) + 1) (point l.fn.a);
  made : AreOddMultiples (point l.fn.a) l.i l.table;
}

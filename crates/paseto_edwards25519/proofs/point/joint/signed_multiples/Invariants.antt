use Rattle.std.proofs.Common.{◌≡◌, ℕ, ◌+◌, ◌-◌, ◌*◌, ◌<◌, length, get_or}
use Rattle.paseto_edwards_laws.specs.Group.{Affine}
use Rattle.paseto_edwards25519.specs.Curve.{multiple, opposite}
use Rattle.paseto_edwards25519.specs.Extended.{affine}
use Rattle.paseto_edwards25519.specs.Field.{number}
use Rattle.paseto_edwards25519.specs.Point.{AreOddMultiples, HaveUnitZ, prepared}
use Rattle.paseto_edwards25519.specs.declared.point.addend.Addend.{Addend}
use Rattle.paseto_edwards25519.proofs.point.joint.signed_multiples.Given as goal

abbrev pub invariant-multiples : goal.invariant-multiples
invariant-multiples l = record {
  all : length l.table ≡ 16;
  kept : (a : Affine) → AreOddMultiples a 8 l.fn.odd → AreOddMultiples a l.i l.table;
  opposed : (a : Affine) → AreOddMultiples a 8 l.fn.odd → (j : ℕ) (other : Addend) → j < l.i
      → affine (prepared (get_or l.table (15 - j) other)) ≡ opposite (multiple (2 * j + 1) a);
  kept_unit : HaveUnitZ 8 l.fn.odd → HaveUnitZ l.i l.table;
  opposed_unit : HaveUnitZ 8 l.fn.odd → (j : ℕ) (other : Addend) → j < l.i → number (get_or l.table (15 - j) other).z ≡ 1;
}

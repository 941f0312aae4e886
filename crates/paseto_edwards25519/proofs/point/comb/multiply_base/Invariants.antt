use Rattle.std.proofs.Common.{◌≡◌}
use Rattle.paseto_edwards_laws.specs.Edwards25519.{base}
use Rattle.paseto_edwards25519.specs.Curve.{multiple}
use Rattle.paseto_edwards25519.specs.Digits.{turn_sum}
use Rattle.paseto_edwards25519.specs.Point.{point}
use Rattle.paseto_edwards25519.specs.Scalar.{number32}
use Rattle.paseto_edwards25519.proofs.point.comb.multiply_base.Given as goal

abbrev pub invariant-turns : goal.invariant-turns
invariant-turns l = point l.sum ≡ multiple (turn_sum (number32 l.scalar) l.i) base

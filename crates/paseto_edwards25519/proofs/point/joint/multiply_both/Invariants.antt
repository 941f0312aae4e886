use Rattle.std.proofs.Common.{◌≡◌, ◌-◌}
use Rattle.paseto_edwards_laws.specs.Edwards25519.{base}
use Rattle.paseto_edwards25519.specs.Curve.{multiple, sum}
use Rattle.paseto_edwards25519.specs.Extended.{affine}
use Rattle.paseto_edwards25519.specs.Point.{point, projected}
use Rattle.paseto_edwards25519.specs.Scalar.{number32}
use Rattle.paseto_edwards25519.specs.Windows.{left_of}
use Rattle.paseto_edwards25519.proofs.point.joint.multiply_both.Given as goal

abbrev pub invariant-digits : goal.invariant-digits
invariant-digits l = affine (projected l.sum)
    ≡ sum (multiple (left_of (number32 l.s) (l.count - l.i)) base) (multiple (left_of (number32 l.k) (l.count - l.i)) (point l.fn.a))

use Rattle.std.proofs.Common.{arith}
use Rattle.paseto_edwards25519.proofs.DigitLaws.{digit-high, digit-low}
use Rattle.paseto_edwards25519.proofs.point.digit.Goals as goal

pub returns-then-at-lt-HALF_DIGITS-clause-value : goal.returns-then-at-lt-HALF_DIGITS-clause-value
returns-then-at-lt-HALF_DIGITS-clause-value c =
    digit-low c.args.number.0 c.args.number.1 c.args.at c.if-at-lt-HALF_DIGITS.true

pub returns-clause-value : goal.returns-clause-value
returns-clause-value c =
    digit-high c.args.number.0 c.args.number.1 c.args.at (omega arith) c.if-at-lt-HALF_DIGITS.false

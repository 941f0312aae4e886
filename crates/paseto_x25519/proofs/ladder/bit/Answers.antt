use Rattle.std.proofs.Common.{arith}
use Rattle.paseto_x25519.proofs.LadderLaws.{bit-high, bit-low}
use Rattle.paseto_x25519.proofs.ladder.bit.Goals as goal

pub returns-then-at-lt128-clause-value : goal.returns-then-at-lt128-clause-value
returns-then-at-lt128-clause-value c = bit-low c.args.number.0 c.args.number.1 c.args.at c.if-at-lt128.true

pub returns-clause-value : goal.returns-clause-value
returns-clause-value c = bit-high c.args.number.0 c.args.number.1 c.args.at (omega arith) c.if-at-lt128.false

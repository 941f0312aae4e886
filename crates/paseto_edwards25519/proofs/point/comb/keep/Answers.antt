use Rattle.std.proofs.Common.{arith}
use Rattle.paseto_edwards25519.proofs.MaskLaws.{kept-all, kept-none}
use Rattle.paseto_edwards25519.proofs.point.comb.keep.Goals as goal

pub returns-clause-one : goal.returns-clause-one
returns-clause-one c h none = kept-all 128 c.args.word c.args.chosen _ (omega arith) none (omega (arith, h))

pub returns-clause-zero : goal.returns-clause-zero
returns-clause-zero c h = kept-none c.args.word c.args.chosen _ (omega (arith, h))

use Rattle.std.proofs.Common.{rules, arith}
use Rattle.paseto_rsa.proofs.MaskLaws.{counter-octets}
use Rattle.paseto_rsa.proofs.mask.block.Goals as goal

pub returns : goal.returns
returns c = rw (← counter-octets c.args.counter (omega (arith, c.ranges.counter.fits))) (search rules)

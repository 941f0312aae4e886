use Rattle.std.proofs.Common.{arith}
use Rattle.rusty_paseto_primitives.proofs.AesBytes.{xtimes_of_byte}
use Rattle.rusty_paseto_primitives.proofs.aes.field.xtimes.Goals as goal

pub returns : goal.returns
returns c = xtimes_of_byte c.args.a (omega arith)

use Rattle.std.proofs.Common.{arith}
use Rattle.rusty_paseto_primitives.proofs.AesBytes.{s_box_is}
use Rattle.rusty_paseto_primitives.proofs.aes.field.sub_byte.Goals as goal

pub returns : goal.returns
returns c = s_box_is c.args.a (omega arith)

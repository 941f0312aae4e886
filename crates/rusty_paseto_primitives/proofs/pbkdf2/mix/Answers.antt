use Rattle.std.proofs.Common.{slice_index, arith}
use Rattle.rusty_paseto_primitives.proofs.Xored.{xored_to_none, xored_to_byte, xored_to_all}
use Rattle.rusty_paseto_primitives.proofs.pbkdf2.mix.Goals as goal

pub bytes-init : goal.bytes-init
bytes-init c = xored_to_none (slice_index c.args.output.now) c.args.key.now

pub bytes-preserved : goal.bytes-preserved
bytes-preserved c =
    xored_to_byte (slice_index c.args.output.now) c.bytes.i c.args.key.now c.bytes.key c.bytes.invariant (omega arith)

pub returns : goal.returns
returns c =
    xored_to_all (slice_index c.args.output.now) c.bytes.i c.args.key.now c.bytes.key c.bytes.invariant (omega arith)

use Rattle.std.proofs.Common.{arith}
use Rattle.rusty_paseto_core.proofs.Tagged.{kept_ciphertext}
use Rattle.rusty_paseto_core.proofs.local.opening.keep_ciphertext.Goals as goal

pub returns : goal.returns
returns c =
    rw (c.truncate.ensures.items, c.copy_within.ensures.items) (kept_ciphertext c.args.payload.now.items c.args.end c.requires.low (omega arith))

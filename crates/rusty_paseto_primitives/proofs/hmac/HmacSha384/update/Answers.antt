use Rattle.std.proofs.Common.{append_assoc}
use Rattle.rusty_paseto_primitives.specs.Hmac.{Holds, inner_input, inner_key}
use Rattle.rusty_paseto_primitives.proofs.hmac.HmacSha384.update.Goals as goal

pub returns : goal.returns
unfolding Holds
returns c = λ key message held.
    (rw (append_assoc (inner_key key) message c.args.data.now) at (c.update.ensures (inner_input key message) held.0), held.1)

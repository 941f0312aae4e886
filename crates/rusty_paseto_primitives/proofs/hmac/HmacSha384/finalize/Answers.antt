use Rattle.rusty_paseto_primitives.specs.Hmac.{Holds, hmac, inner_input, outer_key}
use Rattle.rusty_paseto_primitives.proofs.hmac.HmacSha384.finalize.Goals as goal

pub returns : goal.returns
unfolding Holds hmac
returns c = λ key message held.
    let digest = c.finalize.ensures (inner_input key message) held.0 in
    rw digest at (c.finalize-2.ensures _ (c.update.ensures (outer_key key) held.1))

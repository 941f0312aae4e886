use Rattle.std.proofs.Common.{append-nil}
use Rattle.rusty_paseto_primitives.specs.Hmac.{Holds, inner_key}
use Rattle.rusty_paseto_primitives.proofs.hmac.HmacSha384.new.Goals as goal

pub returns : goal.returns
unfolding Holds
returns c =
    let block = c.key_block-block.ensures in (
      rw (append-nil (inner_key c.args.key.now)) (rw (c.with_pad.ensures, block) at c.new_with_prefix.ensures),
      rw (c.with_pad-2.ensures, block) at c.new_with_prefix-2.ensures,
    )

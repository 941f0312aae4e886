use Rattle.std.proofs.Common.{refl}
use Rattle.paseto_x25519.proofs.ladder.start.Goals as goal

pub returns : goal.returns
returns c = rw (c.one.ensures.value, c.zero.ensures.value, c.one-2.ensures.value) refl

use Rattle.rusty_paseto_primitives.specs.Keystream.{xored}
use Rattle.rusty_paseto_primitives.proofs.chacha.stream.xchacha20_apply.Goals as goal

pub returns : goal.returns
unfolding xored
returns c = c.xchacha20_apply_from.ensures

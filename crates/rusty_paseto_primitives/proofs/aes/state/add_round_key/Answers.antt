use Rattle.std.proofs.Common.{refl}
use Rattle.rusty_paseto_primitives.specs.Aes.State.{add_round_key}
use Rattle.rusty_paseto_primitives.proofs.aes.state.add_round_key.Goals as goal

pub returns : goal.returns
unfolding add_round_key
returns c = refl

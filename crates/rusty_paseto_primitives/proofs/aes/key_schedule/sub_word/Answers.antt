use Rattle.std.proofs.Common.{refl}
use Rattle.rusty_paseto_primitives.specs.Aes.KeySchedule.{sub_word}
use Rattle.rusty_paseto_primitives.specs.Aes.State.{sub_bytes}
use Rattle.rusty_paseto_primitives.proofs.aes.key_schedule.sub_word.Goals as goal

pub returns : goal.returns
unfolding sub_word sub_bytes
returns c = rw c.sub_block.ensures refl

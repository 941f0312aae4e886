use Rattle.std.proofs.Common.{refl}
use Rattle.rusty_paseto_primitives.specs.Aes.KeySchedule.{xor_word}
use Rattle.rusty_paseto_primitives.proofs.aes.key_schedule.xor_word.Goals as goal

pub returns : goal.returns
unfolding xor_word
returns c = refl

use Rattle.std.proofs.Common.{refl}
use Rattle.rusty_paseto_primitives.specs.Aes.KeySchedule.{rot_word}
use Rattle.rusty_paseto_primitives.proofs.aes.key_schedule.rot_word.Goals as goal

pub returns : goal.returns
unfolding rot_word
returns c = refl

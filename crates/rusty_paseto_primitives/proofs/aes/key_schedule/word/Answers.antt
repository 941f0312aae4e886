use Rattle.std.proofs.Common.{refl}
use Rattle.rusty_paseto_primitives.specs.Aes.KeySchedule.{word}
use Rattle.rusty_paseto_primitives.proofs.aes.key_schedule.word.Goals as goal

pub returns : goal.returns
unfolding word
returns c = refl

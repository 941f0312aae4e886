use Rattle.std.proofs.Common.{refl}
use Rattle.rusty_paseto_primitives.specs.Aes.KeySchedule.{next_word}
use Rattle.rusty_paseto_primitives.proofs.aes.key_schedule.next_word.Goals as goal

pub returns : goal.returns
unfolding next_word
returns c = rw (c.xor_word.ensures, c.key_word_step.ensures, c.word.ensures, c.word-2.ensures) refl

use Rattle.std.proofs.Common.{◌≡◌, ◌-◌, ◌*◌, length, take}
use Rattle.rusty_paseto_primitives.specs.Aes.KeySchedule.{expanded}
use Rattle.rusty_paseto_primitives.proofs.aes.key_schedule.key_expansion.Given as goal

abbrev pub invariant-words : goal.invariant-words
invariant-words l = (length l.schedule ≡ 240) × (take (4 * l.i) l.schedule ≡ expanded l.fn.key (l.i - 8))

use Rattle.std.proofs.Common.{◌≡◌, ℕ, ◌<◌, [], length, slice_index_or}
use Rattle.rusty_paseto_primitives.specs.Aes.KeySchedule.{round_key}
use Rattle.rusty_paseto_primitives.specs.Aes.Planes.{planes}
use Rattle.rusty_paseto_primitives.proofs.aes.group.round_keys.Given as goal

abbrev pub invariant-rounds : goal.invariant-rounds
invariant-rounds l = record {
  size : length l.keys ≡ 15;
  made : (k : ℕ) → k < l.n → slice_index_or l.keys k [] ≡ planes (λ j. round_key l.schedule k);
}

use Rattle.std.proofs.Common.{◌≡◌, ℕ, ◌*◌, ◌<◌, [], length, slice_index_or}
use Rattle.rusty_paseto_primitives.specs.Keystream.{stream_of_blocks}
use Rattle.rusty_paseto_primitives.proofs.Xored.{IsXoredTo}
use Rattle.rusty_paseto_primitives.proofs.keystream.apply_by_vectors.Given as goal

abbrev pub invariant-vectors : goal.invariant-vectors
invariant-vectors l = record {
  size : length l.data ≡ length l.initial.data;
  xored : ((k : ℕ) → k < length l.keystream → length (slice_index_or l.keystream k []) ≡ 16)
      → IsXoredTo (stream_of_blocks 16 (λ k. slice_index_or l.keystream k [])) (16 * l.i) l.initial.data l.data;
}

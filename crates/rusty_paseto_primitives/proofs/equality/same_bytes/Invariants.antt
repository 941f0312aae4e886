use Rattle.std.proofs.Common.{◌≡◌, ◌↔◌, ℕ, ◌<◌, slice_index}
use Rattle.rusty_paseto_primitives.proofs.equality.same_bytes.Given as goal

abbrev pub invariant-bytes : goal.invariant-bytes
invariant-bytes l =
    (l.difference ≡ 0) ↔ ((k : ℕ) → k < l.i → slice_index l.a k ≡ slice_index l.b k)

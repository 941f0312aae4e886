use Rattle.std.proofs.Common.{◌≡◌, ◌*◌, length, take}
use Rattle.rusty_paseto_primitives.specs.Blake2.Keyed.{hash_bytes}
use Rattle.rusty_paseto_primitives.proofs.blake2.block.hash_bytes.Given as goal

abbrev pub invariant-words : goal.invariant-words
invariant-words l = (length l.out ≡ 64) × (take (8 * l.i) l.out ≡ hash_bytes l.hash l.i)

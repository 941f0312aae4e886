use Rattle.std.proofs.Common.{◌≡◌, ℕ, List, ◌*◌, length, take}
use Rattle.rusty_paseto_primitives.specs.Blake2.Keyed.{hash_bytes}
use Rattle.paseto_argon2.specs.Block.{registers}
use Rattle.paseto_argon2.proofs.block.block_bytes.Given as goal

abbrev pub invariant-words : goal.invariant-words
invariant-words l =
    (length l.bytes ≡ 1024) × ((a : List ℕ) → l.block ≡ registers a → take (8 * l.k) l.bytes ≡ hash_bytes a l.k)

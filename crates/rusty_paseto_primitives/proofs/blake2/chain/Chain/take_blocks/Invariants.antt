use Rattle.std.proofs.Common.{◌≡◌, ℕ, List, ◌+◌, ◌*◌, length, take, drop}
use Rattle.rusty_paseto_primitives.specs.Blake2.Chain.{IsTaken}
use Rattle.rusty_paseto_primitives.proofs.blake2.chain.Chain.take_blocks.Given as goal

abbrev pub invariant-next : goal.invariant-next
invariant-next l = (first input : List ℕ) (n : ℕ) → IsTaken first l.fn.self input n
    → l.blocks ≡ take (length l.blocks) (drop (n * 128) input) → IsTaken first l.self input (n + l.k)

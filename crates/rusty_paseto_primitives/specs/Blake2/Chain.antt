-- What a contract sees of the hash value on its way through the blocks of its input.
use Rattle.std.specs.Prelude.{◌≡◌, ℕ, ◌*◌, ◌%◌, ◌^◌, List}
use Rattle.rusty_paseto_primitives.specs.Blake2.Keyed.{hash_after}
use Rattle.rusty_paseto_primitives.specs.declared.blake2.chain.Chain.{Chain}

-- the chain, begun from the hash value h, has taken in the first n blocks of the input, none of which
-- is the last, and counts their bytes modulo 2 ^ 128
abbrev pub IsTaken : List ℕ → Chain → List ℕ → ℕ → Type 0
IsTaken h c input n = (c.hash ≡ hash_after h input n) × (c.count ≡ n * 128 % 2 ^ 128)

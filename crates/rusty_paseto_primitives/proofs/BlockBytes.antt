-- The bytes of words and of blocks.
use Rattle.std.proofs.Common.{◌≡◌, List, [], ◌∷◌, ℕ, zero, suc, length, refl, arith}
use Rattle.rusty_paseto_primitives.specs.Bytes.{IsBytes}
use Rattle.rusty_paseto_primitives.specs.ChaCha.Block.{block_bytes, block_words, serialized}

pub IsBytes-serialized : (words : List ℕ) → IsBytes (serialized words)
IsBytes-serialized [] k = omega arith
IsBytes-serialized (w ∷ ws) zero = omega arith
IsBytes-serialized (w ∷ ws) (suc zero) = omega arith
IsBytes-serialized (w ∷ ws) (suc (suc zero)) = omega arith
IsBytes-serialized (w ∷ ws) (suc (suc (suc zero))) = omega arith
IsBytes-serialized (w ∷ ws) (suc (suc (suc (suc k)))) = IsBytes-serialized ws k

pub length-block_bytes : (start : List ℕ) → length (block_bytes start) ≡ 64
unfolding block_bytes
length-block_bytes start = refl

pub IsBytes-block_bytes : (start : List ℕ) → IsBytes (block_bytes start)
unfolding block_bytes
IsBytes-block_bytes start = IsBytes-serialized (block_words start)

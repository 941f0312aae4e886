use Rattle.std.proofs.Common.{rules, ℕ, ◌+◌, ◌*◌, ◌<◌, ◌≡◌, List, [], length, slice_index_or, ap, ◌∙◌, arith}
use Rattle.rusty_paseto_primitives.specs.Keystream.{stream_of_blocks}
use Rattle.rusty_paseto_primitives.specs.ChaCha.Block.{block_bytes}
use Rattle.rusty_paseto_primitives.specs.ChaCha.Stream.{numbered}
use Rattle.rusty_paseto_primitives.proofs.BlockBytes.{length-block_bytes}
use Rattle.rusty_paseto_primitives.proofs.Xored.{xored_by_block, xored_by_zeros, xored_nothing}
use Rattle.rusty_paseto_primitives.proofs.Quarters.{length-quarters, quarters-stream}
use Rattle.rusty_paseto_primitives.proofs.chacha.stream.apply_rest.Goals as goal

pub returns-then-is_empty : goal.returns-then-is_empty
returns-then-is_empty c = xored_nothing _ c.args.data.now (search rules)

pub returns-then-data-le-BLOCK_LEN : goal.returns-then-data-le-BLOCK_LEN
returns-then-data-le-BLOCK_LEN c =
    let block : ℕ → List ℕ = λ n. block_bytes (numbered c.args.key.now c.args.tail.now (c.args.first + n)) in
    let first : c.args.first ≡ c.args.first + 0 = omega arith in
    c.apply_keystream.ensures ∙ xored_by_block 64 block _ c.args.data.now
    (c.block_at.ensures ∙ ap (λ (n : ℕ). block_bytes (numbered c.args.key.now c.args.tail.now n)) first) (omega arith)

pub returns : goal.returns
returns c =
    let block : ℕ → List ℕ = λ n. block_bytes (numbered c.args.key.now c.args.tail.now (c.args.first + n)) in
    let vectors : List (List ℕ) = c.keystream-vectors.result in
    let made = c.keystream-vectors.ensures in
    let stream : ℕ → ℕ = stream_of_blocks 64 block in
    let count : length vectors ≡ 16 = ap length made in
    let lanes : (p : ℕ) → p < length vectors → length (slice_index_or vectors p []) ≡ 16 = λ p lt.
    length-quarters block vectors made (λ j. length-block_bytes _) p (omega arith) in
    c.apply_keystream-2.ensures
    ∙ xored_by_zeros stream (stream_of_blocks 16 (λ p. slice_index_or vectors p [])) 256 c.apply_by_vectors.new.data c.args.data.now
    (c.apply_by_vectors.ensures lanes) c.requires
    (λ i h. let place : 256 * 0 + i ≡ i = omega arith in quarters-stream block vectors 0 i made h ∙ ap stream place)

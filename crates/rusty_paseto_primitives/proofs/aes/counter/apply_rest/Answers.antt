use Rattle.std.proofs.Common.{rules, ◌≡◌, ℕ, ◌+◌, ◌*◌, ◌%◌, ◌^◌, List, [], slice_index_or, ap, ◌∙◌, arith}
use Rattle.rusty_paseto_primitives.specs.Keystream.{stream_of_blocks}
use Rattle.rusty_paseto_primitives.proofs.AesStream.{counter_block_of, group-stream, length-group}
use Rattle.rusty_paseto_primitives.proofs.Xored.{xored_by_zeros, xored_nothing}
use Rattle.rusty_paseto_primitives.proofs.aes.counter.apply_rest.Goals as goal

pub returns-then-is_empty : goal.returns-then-is_empty
returns-then-is_empty c w hw hk = xored_nothing _ c.args.data.now (search rules)

pub returns : goal.returns
returns c w hw hk =
    let start : ℕ = c.args.start in
    let vectors : List (List ℕ) = c.keystream-vectors.result in
    let made = c.keystream-vectors.ensures w hw hk in
    let first : start ≡ (start + 8 * 0) % 2 ^ 128 = omega arith in
    let stream : ℕ → ℕ = stream_of_blocks 16 (counter_block_of w start) in
    c.apply_keystream.ensures
    ∙ xored_by_zeros stream (stream_of_blocks 16 (λ p. slice_index_or vectors p [])) 128 c.apply_by_vectors.new.data c.args.data.now
    (c.apply_by_vectors.ensures (length-group w start vectors made)) c.requires
    (λ i h. let place : 128 * 0 + i ≡ i = omega arith in group-stream w start start 0 vectors made first i h ∙ ap stream place)

use Rattle.std.proofs.Common.{◌≡◌, ℕ, ◌+◌, ◌-◌, ◌*◌, ◌<◌, List, [], length, slice_index_or, refl, ap, arith}
use Rattle.rusty_paseto_primitives.specs.Keystream.{stream_of_blocks}
use Rattle.rusty_paseto_primitives.specs.ChaCha.Block.{block_bytes}
use Rattle.rusty_paseto_primitives.specs.ChaCha.Lanes.{quarters}
use Rattle.rusty_paseto_primitives.specs.ChaCha.Stream.{numbered}
use Rattle.rusty_paseto_primitives.proofs.BlockBytes.{length-block_bytes}
use Rattle.rusty_paseto_primitives.proofs.Xored.{xored_to_none, xored_to_part, xored_to_all}
use Rattle.rusty_paseto_primitives.proofs.Quarters.{length-quarters, quarters-stream}
use Rattle.rusty_paseto_primitives.proofs.StreamBlocks.{quarters-wrap}
use Rattle.rusty_paseto_primitives.proofs.chacha.stream.apply_groups.Goals as goal

pub groups-init : goal.groups-init
groups-init c = xored_to_none _ c.args.data.now

pub groups-preserved : goal.groups-preserved
groups-preserved c =
    let g : ℕ = c.groups.g in
    let block : ℕ → List ℕ = λ n. block_bytes (numbered c.args.key.now c.args.tail.now (c.args.first + n)) in
    let width : ℕ = 256 * g + 256 - 256 * g in
    let count : length c.keystream-keystream.result ≡ 16 = ap length c.keystream-keystream.ensures in
    let made : c.keystream-keystream.result ≡ quarters (λ j. block (4 * g + j)) =
    quarters-wrap c.args.key.now c.args.tail.now c.args.first (4 * g) _ c.keystream-keystream.result refl c.keystream-keystream.ensures in
    let lanes : (p : ℕ) → p < length c.keystream-keystream.result → length (slice_index_or c.keystream-keystream.result p []) ≡ 16 = λ p lt.
    length-quarters (λ j. block (4 * g + j)) c.keystream-keystream.result made (λ j. length-block_bytes _) p (omega arith) in
    xored_to_part (stream_of_blocks 64 block) (stream_of_blocks 16 (λ p. slice_index_or c.keystream-keystream.result p []))
    (256 * g) width (256 * (g + 1)) c.args.data.now c.groups.data c.apply_by_vectors.new.data c.groups.invariant (omega arith) (omega arith)
    (λ i h. quarters-stream block c.keystream-keystream.result g i made (omega arith)) (c.apply_by_vectors.ensures lanes)

pub returns : goal.returns
returns c = xored_to_all _ (256 * c.groups.g) c.args.data.now c.groups.data c.groups.invariant (omega arith)

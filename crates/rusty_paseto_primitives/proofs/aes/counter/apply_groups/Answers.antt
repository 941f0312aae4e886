use Rattle.std.proofs.Common.{ℕ, ◌+◌, ◌-◌, ◌*◌, ◌%◌, ◌^◌, List, [], slice_index_or, refl, arith}
use Rattle.rusty_paseto_primitives.specs.Keystream.{stream_of_blocks}
use Rattle.rusty_paseto_primitives.proofs.AesStream.{counter_block_of, group-stream, length-group}
use Rattle.rusty_paseto_primitives.proofs.Xored.{xored_to_none, xored_to_part, xored_to_all}
use Rattle.rusty_paseto_primitives.proofs.aes.counter.apply_groups.Goals as goal

pub groups-init : goal.groups-init
groups-init c w hw hk = xored_to_none _ c.args.data.now

pub groups-preserved : goal.groups-preserved
groups-preserved c w hw hk =
    let g : ℕ = c.groups.g in
    let next : ℕ = (c.args.start + 8 * g) % 2 ^ 128 in
    let vectors : List (List ℕ) = c.keystream-vectors.result in
    let made = c.keystream-vectors.ensures w hw hk in
    xored_to_part (stream_of_blocks 16 (counter_block_of w c.args.start)) (stream_of_blocks 16 (λ p. slice_index_or vectors p []))
    (128 * g) (128 * g + 128 - 128 * g) (128 * (g + 1)) c.args.data.now c.groups.data c.apply_by_vectors.new.data (c.groups.invariant w hw hk)
    (omega arith) (omega arith) (λ i h. group-stream w c.args.start next g vectors made refl i (omega arith))
    (c.apply_by_vectors.ensures (length-group w next vectors made))

pub returns : goal.returns
returns c w hw hk = xored_to_all _ (128 * c.groups.g) c.args.data.now c.groups.data (c.groups.invariant w hw hk) (omega arith)

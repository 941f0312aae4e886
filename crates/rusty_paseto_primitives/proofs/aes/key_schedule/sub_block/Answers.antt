use Rattle.std.proofs.Common.{◌≡◌, length, [], slice_index, slice_index_or, refl, sym, ap, ◌∙◌}
use Rattle.rusty_paseto_primitives.specs.Aes.Planes.{bit}
use Rattle.rusty_paseto_primitives.specs.Aes.State.{sub_bytes}
use Rattle.rusty_paseto_primitives.proofs.AesBlocks.{IsBytes-sub_bytes}
use Rattle.rusty_paseto_primitives.proofs.AesGroups.{IsBytes-lanes, block_plane, blocks_vectors}
use Rattle.rusty_paseto_primitives.proofs.aes.key_schedule.sub_block.Goals as goal

pub returns : goal.returns
unfolding sub_bytes
returns c =
    let block = c.args.block in
    let bytes = IsBytes-lanes block c.fits-block.1 in
    let packed = c.repeated.ensures (λ i b. bit (slice_index block i) b) (sym (block_plane block c.fits-block.0 bytes)) in
    let size : length (sub_bytes block) ≡ 16 = refl in
    let made = c.sub_bytes.ensures (λ j. block) (λ j. bytes) packed in
    ap (λ v. slice_index_or v 0 []) (c.transposed.ensures (λ b i j. bit (slice_index (sub_bytes block) i) b) made
    ∙ blocks_vectors (λ j. sub_bytes block) (λ j. size) (λ j. IsBytes-sub_bytes block))

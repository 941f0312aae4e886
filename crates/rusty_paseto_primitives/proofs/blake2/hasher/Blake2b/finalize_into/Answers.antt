use Rattle.std.proofs.Common.{◌≡◌, length, ◌∙◌}
use Rattle.rusty_paseto_primitives.specs.Blake2.Keyed.{blake2b}
use Rattle.rusty_paseto_primitives.proofs.Blake2Hashers.{Holds_final, Holds-output_len}
use Rattle.rusty_paseto_primitives.proofs.blake2.hasher.Blake2b.finalize_into.Goals as goal

pub returns : goal.returns
unfolding blake2b
returns c = λ key n message held.
    let len : length c.args.out.now ≡ n = c.requires ∙ Holds-output_len c.args.self key message n held in
    let hash = Holds_final c.args.self key message _ n held c.zero_padded-block.ensures in
    rw (c.copy_from_slice.ensures.after, len, c.hash_bytes-bytes.ensures, c.finish.ensures, hash)

use Rattle.std.proofs.Common.{refl}
use Rattle.rusty_paseto_primitives.specs.Blake2.Keyed.{blake2b}
use Rattle.rusty_paseto_primitives.proofs.Blake2Hashers.{hash_of_two_blocks}
use Rattle.rusty_paseto_primitives.proofs.blake2.keyed.of_two_blocks.Goals as goal

pub returns : goal.returns
unfolding blake2b
returns g c =
    rw (
      c.front_bytes.ensures,
      c.compress-2.ensures,
      c.compress.ensures,
      c.zero_padded-2.ensures,
      c.zero_padded.ensures,
      c.initial_hash-hash.ensures,
      hash_of_two_blocks _ c.args.key.now c.args.message.now c.requires.key c.requires.key_len c.requires.message c.requires.message_len,
    ) refl

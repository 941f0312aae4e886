use Rattle.std.proofs.Common.{◌/◌, length, refl}
use Rattle.rusty_paseto_primitives.proofs.StreamBlocks.{xored_by_groups}
use Rattle.rusty_paseto_primitives.proofs.chacha.stream.xchacha20_apply_from.Goals as goal

pub returns : goal.returns
returns c =
    xored_by_groups c.args.key.now c.args.nonce.now c.subkey_words-subkey.result c.tail_words-tail.result c.args.data.now
    c.apply_groups.new.data c.apply_rest.new.data c.args.first_block (length c.args.data.now / 256) _
    c.subkey_words-subkey.ensures c.tail_words-tail.ensures refl refl c.apply_groups.ensures c.apply_rest.ensures

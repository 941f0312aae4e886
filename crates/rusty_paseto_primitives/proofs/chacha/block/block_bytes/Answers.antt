use Rattle.std.proofs.Common.{ap, ◌∙◌}
use Rattle.rusty_paseto_primitives.specs.ChaCha.Block.{block_bytes, serialized}
use Rattle.rusty_paseto_primitives.proofs.chacha.block.block_bytes.Goals as goal

pub returns : goal.returns
unfolding block_bytes
returns c = c.serialize.ensures ∙ ap serialized c.block_words.ensures

use Rattle.std.proofs.Common.{refl}
use Rattle.rusty_paseto_primitives.specs.ChaCha.Block.{block_word}
use Rattle.rusty_paseto_primitives.proofs.chacha.block.block_words.Goals as goal

pub returns : goal.returns
unfolding block_word
returns c = rw (c.twenty_rounds-x.ensures) refl

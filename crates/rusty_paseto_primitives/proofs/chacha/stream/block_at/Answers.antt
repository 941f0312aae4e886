use Rattle.std.proofs.Common.{refl}
use Rattle.rusty_paseto_primitives.proofs.chacha.stream.block_at.Goals as goal

pub returns : goal.returns
returns c = rw (c.block_bytes.ensures, c.start_words.ensures, c.low_half.ensures, c.high_half.ensures) refl

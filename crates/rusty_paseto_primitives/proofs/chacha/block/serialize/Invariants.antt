use Rattle.std.proofs.Common.{◌≡◌, ◌*◌, take}
use Rattle.rusty_paseto_primitives.specs.ChaCha.Block.{serialized}
use Rattle.rusty_paseto_primitives.proofs.chacha.block.serialize.Given as goal

abbrev pub invariant-words : goal.invariant-words
invariant-words l = take (4 * l.i) l.bytes ≡ serialized (take l.i l.words)

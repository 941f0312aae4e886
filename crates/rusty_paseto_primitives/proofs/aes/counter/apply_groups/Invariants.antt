use Rattle.std.proofs.Common.{ℕ, ◌*◌, List}
use Rattle.rusty_paseto_primitives.specs.Bytes.{IsBytes}
use Rattle.rusty_paseto_primitives.specs.Keystream.{stream_of_blocks}
use Rattle.rusty_paseto_primitives.specs.Aes.Planes.{AreRoundKeys}
use Rattle.rusty_paseto_primitives.proofs.AesStream.{counter_block_of}
use Rattle.rusty_paseto_primitives.proofs.Xored.{IsXoredTo}
use Rattle.rusty_paseto_primitives.proofs.aes.counter.apply_groups.Given as goal

abbrev pub invariant-groups : goal.invariant-groups
invariant-groups l =
    (w : List ℕ) → IsBytes w → AreRoundKeys l.keys w
    → IsXoredTo (stream_of_blocks 16 (counter_block_of w l.start)) (128 * l.g) l.initial.data l.data

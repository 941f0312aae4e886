use Rattle.std.proofs.Common.{◌+◌, ◌*◌}
use Rattle.rusty_paseto_primitives.specs.Keystream.{stream_of_blocks}
use Rattle.rusty_paseto_primitives.specs.ChaCha.Block.{block_bytes}
use Rattle.rusty_paseto_primitives.specs.ChaCha.Stream.{numbered}
use Rattle.rusty_paseto_primitives.proofs.Xored.{IsXoredTo}
use Rattle.rusty_paseto_primitives.proofs.chacha.stream.apply_groups.Given as goal

abbrev pub invariant-groups : goal.invariant-groups
invariant-groups l =
    IsXoredTo (stream_of_blocks 64 (λ n. block_bytes (numbered l.key l.tail (l.first + n)))) (256 * l.g) l.initial.data l.data

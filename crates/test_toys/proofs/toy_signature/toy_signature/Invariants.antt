use Rattle.std.proofs.Common.{◌≡◌, ◌*◌, length, take}
use Rattle.test_toys.specs.ToySignature.{toy_blocks}
use Rattle.test_toys.proofs.toy_signature.toy_signature.Given as goal

abbrev pub invariant-each : goal.invariant-each
invariant-each g l = (length l.joined ≡ 256) × (take (64 * l.i) l.joined ≡ toy_blocks l.key l.message l.i)

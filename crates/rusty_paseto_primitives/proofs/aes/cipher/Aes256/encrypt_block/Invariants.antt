use Rattle.std.proofs.Common.{◌≡◌, ◌-◌}
use Rattle.rusty_paseto_primitives.specs.Aes.Cipher.{rounds}
use Rattle.rusty_paseto_primitives.proofs.aes.cipher.Aes256.encrypt_block.Given as goal

abbrev pub invariant-rounds : goal.invariant-rounds
invariant-rounds l = l.state ≡ rounds l.self.schedule l.block (l.round - 1)

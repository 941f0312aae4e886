use Rattle.std.proofs.Common.{◌≡◌, ℕ, ◌-◌, List}
use Rattle.rusty_paseto_primitives.specs.Bytes.{IsBytes}
use Rattle.rusty_paseto_primitives.specs.Aes.Cipher.{rounds}
use Rattle.rusty_paseto_primitives.specs.Aes.Planes.{AreRoundKeys, planes}
use Rattle.rusty_paseto_primitives.proofs.aes.group.encrypted.Given as goal

abbrev pub invariant-rounds : goal.invariant-rounds
invariant-rounds l =
    (w : List ℕ) (s : ℕ → List ℕ) → IsBytes w → ((j : ℕ) → IsBytes (s j)) → AreRoundKeys l.keys w → l.fn.blocks ≡ planes s
    → l.state ≡ planes (λ j. rounds w (s j) (l.round - 1))

use Rattle.std.proofs.Common.{◌≡◌, ℕ, List}
use Rattle.rusty_paseto_primitives.specs.ChaCha.Block.{double_rounds}
use Rattle.rusty_paseto_primitives.specs.ChaCha.Lanes.{lanes}
use Rattle.rusty_paseto_primitives.proofs.chacha.lanes.blocks.Given as goal

abbrev pub invariant-rounds : goal.invariant-rounds
invariant-rounds l = (s : ℕ → List ℕ) → l.start ≡ lanes s → l.x ≡ lanes (λ j. double_rounds l._round (s j))

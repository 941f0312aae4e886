use Rattle.std.proofs.Common.{◌≡◌, ℕ, List, map}
use Rattle.paseto_argon2.specs.Block.{registers}
use Rattle.paseto_argon2.specs.Filling.{last_blocks}
use Rattle.paseto_argon2.specs.Settings.{setting_of}
use Rattle.paseto_argon2.proofs.filling.Filling.last_blocks.Given as goal

abbrev pub invariant-lanes : goal.invariant-lanes
invariant-lanes l = (m : List (List ℕ)) → l.memory ≡ map registers m → l.sum ≡ registers (last_blocks (setting_of l.self) m l.lane)

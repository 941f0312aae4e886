use Rattle.std.proofs.Common.{◌≡◌, ℕ, List, map}
use Rattle.paseto_argon2.specs.Block.{registers}
use Rattle.paseto_argon2.specs.Filling.{after_lanes}
use Rattle.paseto_argon2.specs.Settings.{setting_of}
use Rattle.paseto_argon2.proofs.filling.Filling.fill_slice.Given as goal

abbrev pub invariant-lanes : goal.invariant-lanes
invariant-lanes l = (m : List (List ℕ)) → l.fn.memory ≡ map registers m
    → l.memory ≡ map registers (after_lanes (setting_of l.self) m l.pass l.slice l.lane)

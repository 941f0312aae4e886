use Rattle.std.proofs.Common.{◌≡◌, ℕ, List, map}
use Rattle.paseto_argon2.specs.Block.{registers}
use Rattle.paseto_argon2.specs.Filling.{after_passes}
use Rattle.paseto_argon2.specs.Settings.{setting_of}
use Rattle.paseto_argon2.proofs.filling.Filling.fill.Given as goal

abbrev pub invariant-passes : goal.invariant-passes
invariant-passes l = (m : List (List ℕ)) → l.fn.memory ≡ map registers m
    → l.memory ≡ map registers (after_passes (setting_of l.self) m l.pass)

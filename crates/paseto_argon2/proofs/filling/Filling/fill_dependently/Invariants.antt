use Rattle.std.proofs.Common.{◌≡◌, ℕ, List, map}
use Rattle.paseto_argon2.specs.Block.{registers}
use Rattle.paseto_argon2.specs.Filling.{after_blocks}
use Rattle.paseto_argon2.specs.Settings.{setting_of}
use Rattle.paseto_argon2.proofs.filling.Filling.fill_dependently.Given as goal

abbrev pub invariant-dependent : goal.invariant-dependent
invariant-dependent l = (m : List (List ℕ)) → l.fn.memory ≡ map registers m
    → l.memory ≡ map registers (after_blocks (setting_of l.self) m l.at.pass l.at.lane l.at.slice l.index)

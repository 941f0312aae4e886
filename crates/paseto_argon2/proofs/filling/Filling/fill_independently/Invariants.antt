use Rattle.std.proofs.Common.{◌≡◌, ℕ, ◌<◌, ◌/◌, ◌%◌, List, map}
use Rattle.paseto_argon2.specs.Block.{registers}
use Rattle.paseto_argon2.specs.Filling.{address_block, after_blocks}
use Rattle.paseto_argon2.specs.Settings.{setting_of}
use Rattle.paseto_argon2.proofs.filling.Filling.fill_independently.Given as goal

abbrev pub invariant-independent : goal.invariant-independent
invariant-independent l =
    (0 < l.index % 128 → l.addresses ≡ registers (address_block (setting_of l.self) l.at.pass l.at.lane l.at.slice (l.index / 128)))
    × ((m : List (List ℕ)) → l.fn.memory ≡ map registers m
    → l.memory ≡ map registers (after_blocks (setting_of l.self) m l.at.pass l.at.lane l.at.slice l.index))

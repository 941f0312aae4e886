use Rattle.std.proofs.Common.{◌≡◌, ℕ, List, ◌++◌, length}
use Rattle.std.specs.Io.KnownBytes.{Appends}
use Rattle.paseto_streams.proofs.output.write_whole.Given as goal

-- what was written and what is left are the bytes
abbrev pub invariant-writes : goal.invariant-writes
invariant-writes g l =
    (written : List ℕ) × Appends (g.W.Write.contents l.fn.output) (g.W.Write.contents l.output) written
    × (l.bytes ≡ written ++ l.rest)

abbrev pub decreases-writes : goal.decreases-writes
decreases-writes g l = length l.rest

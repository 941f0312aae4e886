use Rattle.std.proofs.Common.{◌≡◌, length}
use Rattle.std.specs.Io.BufRead.{drop_through}
use Rattle.paseto_tasks.proofs.input.behind_line.Given as goal

-- what is behind the line of the bytes is behind that of the rest
abbrev pub invariant-bytes : goal.invariant-bytes
invariant-bytes l = drop_through 10 l.rest ≡ drop_through 10 l.bytes

abbrev pub decreases-bytes : goal.decreases-bytes
decreases-bytes l = length l.rest

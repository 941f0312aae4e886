use Rattle.std.proofs.Common.{length, ◌-◌, ◌≤◌, take}
use Rattle.paseto.proofs.Cuts.{IsLine}
use Rattle.paseto.proofs.commands.each.cut_line.Given as goal

-- no byte in front ends the line
abbrev pub invariant-bytes : goal.invariant-bytes
invariant-bytes l = (l.length ≤ length l.bytes) × IsLine (take l.length l.bytes)

abbrev pub decreases-bytes : goal.decreases-bytes
decreases-bytes l = length l.bytes - l.length

use Rattle.std.proofs.Common.{length}
use Rattle.paseto.specs.Check.{demanded}
use Rattle.paseto.specs.Each.{IsTokenRow}
use Rattle.paseto.proofs.Progress.{Progress}
use Rattle.paseto.proofs.commands.each.LineChecker.write_rows.Given as goal

-- the lines in front of the rest are checked
abbrev pub invariant-lines : goal.invariant-lines
invariant-lines g l =
    Progress (IsTokenRow l.self.keys.now (demanded l.self.demands.now)) l.self.longest l.are_last l.fn.pending.items l.rest
    (g.W.Write.contents l.fn.output) (g.W.Write.contents l.output) l.all

abbrev pub decreases-lines : goal.decreases-lines
decreases-lines g l = length l.rest

use Rattle.std.proofs.Common.{◌-◌, ◌^◌}
use Rattle.paseto.specs.Check.{demanded}
use Rattle.paseto.specs.Each.{IsTokenRow}
use Rattle.paseto.proofs.Passes.{Pass}
use Rattle.paseto.proofs.commands.each.LineChecker.check.Given as goal

-- the lines in front of the pending bytes are checked
abbrev pub invariant-reads : goal.invariant-reads
invariant-reads g l =
    Pass (IsTokenRow l.self.keys.now (demanded l.self.demands.now)) l.self.longest (g.R.Read.remaining l.fn.input) (g.R.Read.remaining l.input) l.pending.items
    (g.W.Write.contents l.fn.output) (g.W.Write.contents l.output) l.total l.all

abbrev pub decreases-reads : goal.decreases-reads
decreases-reads g l = 2 ^ 64 - l.total

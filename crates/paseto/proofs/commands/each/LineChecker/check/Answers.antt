use Rattle.std.proofs.Common.{take, arith}
use Rattle.std.proofs.Math.Nat.{lt_of_not-le}
use Rattle.std.proofs.lemmas.List.{length-take-le}
use Rattle.std.proofs.lemmas.Result.{err_from_is_err_and}
use Rattle.paseto.proofs.Passes.{pass_ended, pass_endless, pass_fails, pass_more, pass_rows, pass_stops}
use Rattle.paseto.proofs.commands.each.LineChecker.check.Goals as goal

pub returns-in_err-count-clause-stops : goal.returns-in_err-count-clause-stops
returns-in_err-count-clause-stops g c =
    let p = err_from_is_err_and c.from_residual.result c.from_residual.ensures.1 in
    rw (p.1, p.2) (pass_fails _ _ _ _ _ _ _ _ _ c.reads.invariant _ (tt, c.in_err-count.field-0.0))

pub returns-in_err-are_admitted-clause-stops : goal.returns-in_err-are_admitted-clause-stops
returns-in_err-are_admitted-clause-stops g c =
    let p = err_from_is_err_and c.from_residual-in_err-are_admitted.result c.from_residual-in_err-are_admitted.ensures.1 in
    rw (p.1, p.2) (pass_stops _ _ _ _ _ _ _ _ _ c.reads.invariant _ _ c.in_err-are_admitted.ensures.stops)

pub returns-then-count-eq0-clause-all : goal.returns-then-count-eq0-clause-all
returns-then-count-eq0-clause-all g c =
    rw c.both.ensures
    (pass_ended _ _ _ _ _ _ _ _ _ c.reads.invariant (g.R.Read.remaining c.read.new.self) (rw c.if-count-eq0.true at c.in_ok-count.ensures.bytes.0)
    (c.in_ok-count.ensures.bytes.1 c.if-count-eq0.true (grind arith)) _ _ _ c.in_ok-are_admitted.ensures.written)

pub returns-in-None-clause-stops : goal.returns-in-None-clause-stops
returns-in-None-clause-stops g c =
    pass_endless _ _ _ _ _ _ _ _ _ c.reads.invariant (g.R.Read.remaining c.read.new.self) (take c.in_ok-count.count c.read.new.buf) c.in_ok-count.count
    c.in_ok-count.ensures.bytes.0 (length-take-le _ _ c.in_ok-count.ensures.bound.0) (omega (arith, lt_of_not-le c.in-None.ensures))

pub returns-in_err-extend_from_slice-clause-stops : goal.returns-in_err-extend_from_slice-clause-stops
returns-in_err-extend_from_slice-clause-stops g c =
    let p = err_from_is_err_and c.from_residual-in_err-extend_from_slice.result c.from_residual-in_err-extend_from_slice.ensures.1 in
    rw (p.1, p.2) (pass_fails _ _ _ _ _ _ _ _ _ c.reads.invariant _ (tt, tt))

pub returns-in_err-are_admitted-2-clause-stops : goal.returns-in_err-are_admitted-2-clause-stops
returns-in_err-are_admitted-2-clause-stops g c =
    let p = err_from_is_err_and c.from_residual-in_err-are_admitted-2.result c.from_residual-in_err-are_admitted-2.ensures.1 in
    rw (p.1, p.2)
    (pass_stops _ _ _ _ _ _ _ _ _
    (pass_more _ _ _ _ _ _ _ _ _ c.reads.invariant (g.R.Read.remaining c.read.new.self) (take c.in_ok-count.count c.read.new.buf) c.in_ok-count.count
    c.in_ok-count.ensures.bytes.0 (length-take-le _ _ c.in_ok-count.ensures.bound.0)) _ _
    (rw c.in_ok-extend_from_slice.ensures.items at c.in_err-are_admitted-2.ensures.stops))

pub reads-preserved : goal.reads-preserved
reads-preserved g c =
    rw (c.both-all.ensures, c.in-Some.ensures.1)
    (pass_rows _ _ _ _ _ _ _ _ _
    (pass_more _ _ _ _ _ _ _ _ _ c.reads.invariant (g.R.Read.remaining c.read.new.self) (take c.in_ok-count.count c.read.new.buf) c.in_ok-count.count
    c.in_ok-count.ensures.bytes.0 (length-take-le _ _ c.in_ok-count.ensures.bound.0)) _ _ _
    (rw c.in_ok-extend_from_slice.ensures.items at c.in_ok-are_admitted-2.ensures.written))

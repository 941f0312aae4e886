use Rattle.std.proofs.Common.{◌∙◌, ◌+◌, sym}
use native.Mathlib.Numerals.{unary_clauses}
use Rattle.std.proofs.lemmas.List.{take_rest}
use Rattle.paseto.proofs.Cuts.{last_line, line_at, line_on}
use Rattle.paseto.proofs.commands.each.cut_line.Goals as goal

pub returns-then-bytes-length-eq10-clause-line : goal.returns-then-bytes-length-eq10-clause-line
returns-then-bytes-length-eq10-clause-line c =
    sym ((line_at c.args.bytes.now c.bytes.length c.bytes-test.true c.bytes.invariant.1 c.if-bytes-length-eq10.true).0)

pub returns-then-bytes-length-eq10-clause-behind : goal.returns-then-bytes-length-eq10-clause-behind
returns-then-bytes-length-eq10-clause-behind c =
    take_rest c.args.bytes.now (c.bytes.length + 1)
    ∙ simp unary_clauses (sym ((line_at c.args.bytes.now c.bytes.length c.bytes-test.true c.bytes.invariant.1 c.if-bytes-length-eq10.true).1))

pub bytes-preserved : goal.bytes-preserved
bytes-preserved c =
    simp unary_clauses (c.bytes-test.true, line_on c.args.bytes.now c.bytes.length c.bytes-test.true c.bytes.invariant.1 c.if-bytes-length-eq10.false)

pub returns-clause-behind : goal.returns-clause-behind
returns-clause-behind c = last_line c.args.bytes.now c.bytes.length c.bytes-test.false c.bytes.invariant.1

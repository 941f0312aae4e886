use Rattle.std.proofs.Common.{codes, sym, ◌∙◌}
use Rattle.serde_json.specs.Data.{string}
use Rattle.serde_json.specs.View.{view}
use Rattle.rusty_paseto_generic.proofs.CheckLemmas.{entry_matches, entry_mismatch, not_null}
use Rattle.rusty_paseto_generic.proofs.parsers.check_entry.compare.Goals as goal

pub returns-in-Entry-clause-ok : goal.returns-in-Entry-clause-ok
returns-in-Entry-clause-ok c =
    let some = not_null (view c.args.found.now) (sym c.is_null.ensures ∙ c.if-is_null.false) in
    rw c.in-Entry.is (entry_matches c.expect.result c.args.key.now (view c.in-Entry.expected) (view c.args.found.now) some c.expect.ensures.ok)

pub returns-in-Entry-clause-err : goal.returns-in-Entry-clause-err
returns-in-Entry-clause-err c =
    let some = not_null (view c.args.found.now) (sym c.is_null.ensures ∙ c.if-is_null.false) in
    rw c.in-Entry.is (entry_mismatch c.expect.result c.args.key.now (view c.in-Entry.expected) (view c.args.found.now) some c.expect.ensures.err)

pub returns-clause-ok : goal.returns-clause-ok
returns-clause-ok c =
    let some = not_null (view c.args.found.now) (sym c.is_null.ensures ∙ c.if-is_null.false) in
    let same = rw c.in_ok-date-in-DefaultDate.ensures at c.expect-in-DefaultDate.ensures.ok in
    rw c.in-DefaultDate.is (entry_matches c.expect-in-DefaultDate.result c.args.key.now (string (codes "2019-01-01T00:00:00+00:00")) (view c.args.found.now) some same)

pub returns-clause-err : goal.returns-clause-err
returns-clause-err c =
    let some = not_null (view c.args.found.now) (sym c.is_null.ensures ∙ c.if-is_null.false) in
    let other = rw c.in_ok-date-in-DefaultDate.ensures at c.expect-in-DefaultDate.ensures.err in
    rw c.in-DefaultDate.is (entry_mismatch c.expect-in-DefaultDate.result c.args.key.now (string (codes "2019-01-01T00:00:00+00:00")) (view c.args.found.now) some other)

use Rattle.std.proofs.Common.{rules}
use Rattle.std.proofs.lemmas.Result.{err_from_is_err_and}
use Rattle.serde_json.specs.View.{view}
use Rattle.rusty_paseto_generic.proofs.CheckLemmas.{fault_among, passes_all}
use Rattle.rusty_paseto_generic.proofs.parsers.check_all.check_all.Goals as goal

pub loop-key-preserved : goal.loop-key-preserved
loop-key-preserved g c = search rules

pub returns-in_err-check_entry-clause-err : goal.returns-in_err-check_entry-clause-err
returns-in_err-check_entry-clause-err g c =
    let answered = err_from_is_err_and c.from_residual.result c.from_residual.ensures.1 in
    let among = rw c.in-Some.ensures.steps at c.loop-key.invariant.fails in
    let fault = rw c.as_str.ensures.value at c.in_err-check_entry.ensures.err in
    rw (answered.1, answered.2)
    (fault_among (λ b. (goal.Validator-dyn g (b.vtable, b.value)).verdict b.value) c.args.times.now (view c.args.value.now) c.args.checks.now.entries.entries
    (c.in-Some.key.now, c.in-Some.check.now) c.next.new.self c.in_err-check_entry.field-0.0 c.iter-key-items.ensures.ordered among fault)

pub returns-clause-ok : goal.returns-clause-ok
returns-clause-ok g c =
    let all = rw c.in-None.ensures.steps.0 at c.loop-key.invariant.passes in
    passes_all (λ b. (goal.Validator-dyn g (b.vtable, b.value)).verdict b.value) c.args.times.now (view c.args.value.now) c.args.checks.now.entries.entries (all tt)

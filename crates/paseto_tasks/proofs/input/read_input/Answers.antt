use Rattle.std.proofs.Common.{inl, inr, rules}
use Rattle.std.proofs.lemmas.Result.{err_from_is_err_and}
use Rattle.paseto_tasks.proofs.Inputs.{long_input}
use Rattle.paseto_tasks.proofs.input.read_input.Goals as goal

-- a read that failed returned an error
pub returns-in_err-count-clause-refused : goal.returns-in_err-count-clause-refused
returns-in_err-count-clause-refused g c =
    let p = err_from_is_err_and c.from_residual.result c.from_residual.ensures.1 in
    rw (p.1, p.2) (inr (tt, c.in_err-count.field-0.0))

pub returns-then-len-longest-clause-refused : goal.returns-then-len-longest-clause-refused
returns-then-len-longest-clause-refused g c = inl (long_input _ _ _ c.reads.bytes.items c.args.longest c.reads.invariant (search rules))

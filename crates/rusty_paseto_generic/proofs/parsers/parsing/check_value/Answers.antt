use Rattle.std.proofs.lemmas.Result.{err_from_is_err_and}
use Rattle.serde_json.specs.View.{view}
use Rattle.rusty_paseto_generic.proofs.ParseLemmas.{check_fault}
use Rattle.rusty_paseto_generic.proofs.parsers.parsing.check_value.Goals as goal

pub returns-in_err-check_all-clause-err : goal.returns-in_err-check_all-clause-err
returns-in_err-check_all-clause-err g c =
    let p = err_from_is_err_and c.from_residual.result c.from_residual.ensures.1 in
    rw (p.1, p.2) (check_fault _ (view c.args.value.now) c.in_err-check_all.field-0.0 c.in_err-check_all.ensures.err)

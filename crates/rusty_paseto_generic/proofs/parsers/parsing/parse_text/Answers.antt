use Rattle.std.proofs.lemmas.Result.{err_from_is_err_and}
use Rattle.serde_json.specs.View.{view}
use Rattle.rusty_paseto_generic.proofs.ParseLemmas.{checked_fault}
use Rattle.rusty_paseto_generic.proofs.parsers.parsing.parse_text.Goals as goal

pub returns-in_err-check_value-clause-err : goal.returns-in_err-check_value-clause-err
returns-in_err-check_value-clause-err g c =
    let p = err_from_is_err_and c.from_residual-in_err-check_value.result c.from_residual-in_err-check_value.ensures.1 in
    rw (p.1, p.2) (checked_fault _ c.args.text.now (view c.in_ok-value.value) c.in_err-check_value.field-0.0 c.in_ok-value.ensures.ok c.in_err-check_value.ensures.err)

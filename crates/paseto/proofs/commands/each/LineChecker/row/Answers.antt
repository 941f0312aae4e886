use Rattle.std.proofs.Common.{string_bytes}
use Rattle.std.proofs.lemmas.Result.{err_from_is_err_and}
use Rattle.serde_json.specs.View.{view}
use Rattle.paseto.specs.Check.{demanded}
use Rattle.paseto.specs.Each.IsTokenRow.{admits}
use Rattle.paseto.proofs.LineRows.{no_message, refused_row}
use Rattle.paseto.proofs.commands.each.LineChecker.row.Goals as goal

pub returns-in_err-message-in-Err-clause-fails : goal.returns-in_err-message-in-Err-clause-fails
returns-in_err-message-in-Err-clause-fails c =
    let p = err_from_is_err_and c.from_residual-in_err-message-in-Err.result c.from_residual-in_err-message-in-Err.ensures.1 in
    rw (p.1, p.2) (no_message c.args.self.now.keys.now (demanded c.args.self.now.demands.now) c.args.line.now c.in-Err.error c.in-Err.ensures.refused
    c.in_err-message-in-Err.field-0.0 c.in_err-message-in-Err.ensures.fails)

pub returns-in_ok-row_text-in-Ok-clause-row : goal.returns-in_ok-row_text-in-Ok-clause-row
returns-in_ok-row_text-in-Ok-clause-row c = admits (view c.in-Ok.claims) _ c.in-Ok.ensures.given c.in_ok-row_text-in-Ok.ensures

pub returns-in_ok-row_text-in-Err-clause-row : goal.returns-in_ok-row_text-in-Err-clause-row
returns-in_ok-row_text-in-Err-clause-row c =
    refused_row c.args.self.now.keys.now (demanded c.args.self.now.demands.now) c.args.line.now c.in-Err.error c.in-Err.ensures.refused
    (string_bytes c.in_ok-message-in-Err.message) c.as_str.result.now (string_bytes c.in_ok-row_text-in-Err.field-0) (view c.in_ok-value-in-Err.value)
    c.in_ok-message-in-Err.ensures.refused c.as_str.ensures.value c.in_ok-value-in-Err.ensures c.in_ok-row_text-in-Err.ensures

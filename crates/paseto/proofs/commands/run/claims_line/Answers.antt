use Rattle.std.proofs.lemmas.Result.{err_from_is_err_and}
use Rattle.paseto_tasks.specs.Arguments.{texts}
use Rattle.paseto.specs.Check.{demanded}
use Rattle.paseto.specs.Checked.{Admits, RefusesDemands}
use Rattle.paseto.proofs.Checks.{input_refused, line_made, token_made, words_demand_none}
use Rattle.paseto.proofs.commands.run.claims_line.Goals as goal

pub returns-in_err-demands : goal.returns-in_err-demands
returns-in_err-demands g c =
    let p = err_from_is_err_and c.from_residual.result c.from_residual.ensures.1 in
    rw (p.1, p.2) (record {
      printed = tt;
      refused = words_demand_none (texts c.args.claims.now) c.args.options.now c.args.now c.args.keys.now (g.R.Read.remaining c.args.input.now)
          c.in_err-demands.field-0.0 c.in_err-demands.ensures.none c.in_err-demands.ensures.of_words;
    })

pub returns-in_err-token : goal.returns-in_err-token
returns-in_err-token g c =
    let p = err_from_is_err_and c.from_residual-in_err-token.result c.from_residual-in_err-token.ensures.1 in
    rw (p.1, p.2) (record {
      printed = tt;
      refused = input_refused (texts c.args.claims.now) c.args.options.now c.args.now c.args.keys.now (g.R.Read.remaining c.args.input.now)
          (demanded c.in_ok-demands.demands) c.in_ok-demands.ensures.found c.in_err-token.field-0.0 c.in_err-token.ensures.refused;
    })

pub returns : goal.returns
returns g c =
    token_made (texts c.args.claims.now) c.args.options.now c.args.now c.args.keys.now (g.R.Read.remaining c.args.input.now) (demanded c.in_ok-demands.demands)
    c.in_ok-demands.ensures.found c.as_str.result.now (rw (← c.as_str.ensures.value) at c.in_ok-token.ensures.token) c.as_str.utf8 c.line_of.result
    (line_made (Admits c.args.keys.now (demanded c.in_ok-demands.demands) c.as_str.result.now) (RefusesDemands c.args.keys.now (demanded c.in_ok-demands.demands) c.as_str.result.now)
    c.admitted_by.result c.line_of.result c.admitted_by.ensures c.line_of.ensures.line c.line_of.ensures.error)

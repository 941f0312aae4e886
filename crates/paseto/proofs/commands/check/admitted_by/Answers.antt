use Rattle.std.proofs.lemmas.Result.{err_from_is_err_and}
use Rattle.serde_json.specs.View.{view}
use Rattle.paseto.specs.Check.{demanded}
use Rattle.paseto.proofs.Checks.{admits_value, check_refuses, keys_refuse}
use Rattle.paseto.proofs.commands.check.admitted_by.Goals as goal

pub returns-in_err-claims : goal.returns-in_err-claims
returns-in_err-claims c =
    let p = err_from_is_err_and c.from_residual-in_err-claims.result c.from_residual-in_err-claims.ensures.1 in
    rw (p.1, p.2) (record {
      given = tt;
      refused = keys_refuse c.args.keys.now (demanded c.args.demands.now) c.args.token.now c.in_err-claims.field-0.0 c.in_err-claims.ensures.refused;
    })

pub returns-in_err-checked : goal.returns-in_err-checked
returns-in_err-checked c =
    let p = err_from_is_err_and c.from_residual-in_err-checked.result c.from_residual-in_err-checked.ensures.1 in
    let told = c.in_err-checked.ensures in
    rw (p.1, p.2) (record {
      given = tt;
      refused = check_refuses c.args.keys.now (demanded c.args.demands.now) c.args.token.now (view c.in_ok-claims.claims) c.in_ok-claims.ensures.given _
          c.in_ok-checker.ensures.rules c.check.result c.check.ensures c.in_err-checked.field-0.0 told.refused told.no_usage told.blames (rw c.deref.ensures.value at told.said);
    })

pub returns : goal.returns
returns c = record {
  given = admits_value c.args.keys.now (demanded c.args.demands.now) c.args.token.now (view c.in_ok-claims.claims) c.in_ok-claims.ensures.given _
      c.in_ok-checker.ensures.rules c.check.result c.check.ensures c.in_ok-checked.ensures.passed c.in_ok-checker.ensures.whole;
  refused = tt;
}

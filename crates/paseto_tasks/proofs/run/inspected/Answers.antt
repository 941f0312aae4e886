use Rattle.std.proofs.Common.{inl, false}
use Rattle.std.proofs.lemmas.Result.{err_from_is_err_and}
use Rattle.paseto_tasks.specs.Input.{IsNoText, uncommented}
use Rattle.paseto_tasks.specs.Inspect.{RefusesInspecting}
use Rattle.paseto_tasks.proofs.Inputs.{refused_more}
use Rattle.paseto_tasks.proofs.Inspections.{inspect_makes}
use Rattle.paseto_tasks.proofs.run.inspected.Goals as goal

pub returns-in_err-text : goal.returns-in_err-text
returns-in_err-text g c =
    let error = c.in_err-text.field-0.0 in
    let p = err_from_is_err_and c.from_residual.result c.from_residual.ensures.1 in
    rw (p.1, p.2) (record {
      printed = tt;
      refused = refused_more (g.R.Read.remaining c.args.input.now) (λ bytes. IsNoText (uncommented false bytes) error)
          (λ bytes. RefusesInspecting bytes error) (λ bytes none. inl none) c.in_err-text.ensures.refused;
    })

pub returns : goal.returns
returns g c =
    inspect_makes (g.R.Read.remaining c.args.input.now) c.as_str.result.now c.inspect.result (rw (← c.as_str.ensures.value) at c.in_ok-text.ensures.text)
    c.inspect.ensures.printed c.inspect.ensures.refused c.inspect.ensures.plain

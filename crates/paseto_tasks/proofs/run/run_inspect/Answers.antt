use Rattle.paseto_tasks.proofs.Refusals.{inspecting_fixed}
use Rattle.paseto_tasks.proofs.Outputs.{leaves_end, no_usage_end, tells_end}
use Rattle.paseto_tasks.proofs.run.run_inspect.Goals as goal

pub returns-clause-output : goal.returns-clause-output
returns-clause-output g c =
    leaves_end _ _ _ (λ error refused. inspecting_fixed refused.0 error refused.2) (λ error fails. fails.0) _ _ _ c.inspected.result c.finish.result c.inspected.ensures c.finish.ensures.output

pub returns-clause-errors : goal.returns-clause-errors
returns-clause-errors g c =
    tells_end _ _ _ (λ error refused. inspecting_fixed refused.0 error refused.2) (λ error fails. fails.0) _ _ _ _ c.inspected.result c.finish.result c.inspected.ensures c.finish.ensures.errors

pub returns-clause-no_usage : goal.returns-clause-no_usage
returns-clause-no_usage g c =
    no_usage_end _ _ _ (λ error refused. inspecting_fixed refused.0 error refused.2) (λ error fails. fails.0) _ _ _ _ c.inspected.result c.finish.result c.inspected.ensures c.finish.ensures.errors

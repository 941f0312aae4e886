use Rattle.paseto.proofs.Endings.{ends}
use Rattle.paseto.proofs.commands.run.run_issue.Goals as goal

pub returns : goal.returns
returns g c = record {
  options = c.issue_options.result;
  are_options = c.issue_options.ensures;
  names = _;
  key_is = c.key_name.ensures;
  runs = ends _ _ _ (λ error fails. fails.0) _ _ _ _ _ _ _ _ c.token_of-made.result (rw c.deref.ensures.value at c.token_of-made.ensures) c.finish.ensures.output c.finish.ensures.errors;
}

use Rattle.std.proofs.Common.{refl}
use Rattle.paseto.proofs.Endings.{ends}
use Rattle.paseto.proofs.commands.run.run_check.Goals as goal

pub returns : goal.returns
returns g c = record {
  options = c.check_options.result;
  are_options = c.check_options.ensures;
  names = _;
  key_is = refl;
  input_is = c.name_of.ensures;
  runs = ends _ _ _ (λ error fails. fails.0) _ _ _ _ _ _ _ _ c.claims_line-made.result (rw c.deref.ensures.value at c.claims_line-made.ensures) c.finish.ensures.output c.finish.ensures.errors;
}

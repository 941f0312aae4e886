use Rattle.std.proofs.Common.{◌≡◌, IsErrAnd, refl}
use Rattle.paseto_tasks.specs.Error.{IsCauseOf, status_of}
use Rattle.paseto_tasks.specs.Output.{IsTextOf}
use Rattle.paseto_tasks.proofs.Outputs.{leaves_cut, leaves_whole, tells_error, tells_nothing}
use Rattle.paseto_tasks.proofs.run.finish.Goals as goal

pub returns-in-Ok-clause-output : goal.returns-in-Ok-clause-output
returns-in-Ok-clause-output g c = leaves_whole _ _ _ (IsTextOf c.args.made) (IsErrAnd c.args.made (λ error. status_of error ≡ 0)) c.in-Ok.ensures.whole

pub returns-in-Ok-clause-errors : goal.returns-in-Ok-clause-errors
returns-in-Ok-clause-errors g c = tells_nothing _ _ _ _ (IsCauseOf c.args.made) refl

pub returns-in-Err-clause-output : goal.returns-in-Err-clause-output
returns-in-Err-clause-output g c = leaves_cut _ _ _ c.args.made c.in-Err.error _ c.status.ensures c.in-Err.ensures.cut c.in-Err.ensures.refused

pub returns-in-Err-clause-errors : goal.returns-in-Err-clause-errors
returns-in-Err-clause-errors g c = tells_error _ _ _ _ (IsCauseOf c.args.made) c.in-Err.error _ c.status.ensures c.in-Err.ensures.cause c.say.ensures

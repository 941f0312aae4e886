use Rattle.std.proofs.Common.{Ok, Err, inl, inr}
use Rattle.paseto_keys.specs.AnyKey.{parts_of}
use Rattle.paseto_tasks.specs.Error.{Fails}
use Rattle.paseto_tasks.specs.Input.{reading}
use Rattle.paseto_tasks.proofs.Outputs.{leaves_end, leaves_forged, printed_makes, refused_makes, tells_end}
use Rattle.paseto_tasks.proofs.Refusals.{explaining_fixed}
use Rattle.paseto_tasks.proofs.run.run_explain.Goals as goal

pub returns-in-Ok-Issued-clause-told : goal.returns-in-Ok-Issued-clause-told
returns-in-Ok-Issued-clause-told g c =
    let told = rw c.in-Ok-Issued.field-0-is at c.in-Ok-Issued.ensures.told in
    inl (
      leaves_end _ _ (Fails reading) (λ error refused. explaining_fixed (parts_of c.args.key.now) c.args.options.now _ error refused.2) (λ error fails. fails.0) _ _ _ (Ok c.in-Ok-Issued.lines) c.finish.result (printed_makes _ _ _ c.in-Ok-Issued.lines told) c.finish.ensures.output,
      tells_end _ _ (Fails reading) (λ error refused. explaining_fixed (parts_of c.args.key.now) c.args.options.now _ error refused.2) (λ error fails. fails.0) _ _ _ _ (Ok c.in-Ok-Issued.lines) c.finish.result (printed_makes _ _ _ c.in-Ok-Issued.lines told) c.finish.ensures.errors,
    )

pub returns-in-Ok-Forged-clause-told : goal.returns-in-Ok-Forged-clause-told
returns-in-Ok-Forged-clause-told g c =
    let ended = c.finish-in-Ok-Forged in
    let told = rw c.in-Ok-Forged.field-0-is at c.in-Ok-Forged.ensures.told in
    inr (
      ended.result,
      c.forged_status.ensures.status,
      leaves_forged _ _ _ _ c.in-Ok-Forged.lines ended.result (printed_makes _ _ _ c.in-Ok-Forged.lines told) ended.ensures.output,
      tells_end _ (λ error. ⊥) (λ error. ⊥) (λ error none. absurd none) (λ error none. absurd none) _ _ _ _ (Ok c.in-Ok-Forged.lines) ended.result (printed_makes _ _ _ c.in-Ok-Forged.lines told) ended.ensures.errors,
    )

pub returns-in-Err-clause-told : goal.returns-in-Err-clause-told
returns-in-Err-clause-told g c =
    let ended = c.finish-in-Err in
    let refused = c.in-Err.ensures.refused in
    inl (
      leaves_end _ _ (Fails reading) (λ error refused. explaining_fixed (parts_of c.args.key.now) c.args.options.now _ error refused.2) (λ error fails. fails.0) _ _ _ (Err c.in-Err.error) ended.result (refused_makes _ _ _ c.in-Err.error refused) ended.ensures.output,
      tells_end _ _ (Fails reading) (λ error refused. explaining_fixed (parts_of c.args.key.now) c.args.options.now _ error refused.2) (λ error fails. fails.0) _ _ _ _ (Err c.in-Err.error) ended.result (refused_makes _ _ _ c.in-Err.error refused) ended.ensures.errors,
    )

use Rattle.std.proofs.Common.{inr}
use Rattle.std.proofs.lemmas.Result.{IfErr-weaker, IfOk-weaker}
use Rattle.paseto_key_files.proofs.password.protect.Goals as goal

pub returns-clause-ok : goal.returns-clause-ok
returns-clause-ok g c = IfOk-weaker c.protect_in.result _ _ (λ text h. (c.in_ok-version.version, c.in_ok-version.kind, h)) c.protect_in.ensures.ok

pub returns-clause-err : goal.returns-clause-err
returns-clause-err g c =
    IfErr-weaker c.protect_in.result _ _ (λ error h. inr (c.in_ok-version.version, c.in_ok-version.kind, c.in_ok-version.ensures.found, h)) c.protect_in.ensures.err

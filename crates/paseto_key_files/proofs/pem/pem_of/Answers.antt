use Rattle.std.proofs.Common.{inl, inr, refl}
use Rattle.std.proofs.lemmas.Result.{IfErr-weaker}
use Rattle.paseto_key_files.proofs.pem.pem_of.Goals as goal

pub returns-in-Some-clause-err : goal.returns-in-Some-clause-err
returns-in-Some-clause-err c =
    IfErr-weaker c.pem_in.result _ _ (λ error h. inr (c.in-Some.version, c.in-Some.kind, (_, c.in-Some.ensures.found), h)) c.pem_in.ensures.err

pub returns-in-None-clause-err : goal.returns-in-None-clause-err
returns-in-None-clause-err c = inl (c.in-None.ensures.none refl, refl)

use Rattle.std.proofs.Common.{List, ℕ, IfErr, sym, ◌∙◌, subst}
use Rattle.paseto_wrapping.specs.declared.family.Family.{Family}
use Rattle.paseto_wrapping.specs.Family.{family_of}
use Rattle.paseto_wrapping.specs.Sealing.{IsSealFault}
use Rattle.paseto_wrapping.proofs.sealing.sealed_payload.Goals as goal

pub returns-in-Sodium-clause-err : goal.returns-in-Sodium-clause-err
returns-in-Sodium-clause-err c =
    subst (λ (e : List ℕ). IfErr c.seal-in-Sodium.result (IsSealFault (family_of c.args.version) c.args.public.now e)) c.array_of.ensures
    (subst (λ (f : Family). IfErr c.seal-in-Sodium.result (IsSealFault f c.args.public.now c.array_of.result)) (sym c.in-Sodium.is ∙ c.of.ensures)
    c.seal-in-Sodium.ensures.err)
